use Rattle.std.proofs.Common.{◌∙◌, arith, rules}
use Rattle.std.proofs.lemmas.List.{length-take-le, get_or-take}
use Rattle.table.proofs.Replays.{calls_all, ran_more, behind_kept}
use Rattle.table.proofs.table.Table.apply_all.Goals as goal

pub loop-i-preserved : goal.loop-i-preserved
loop-i-preserved g c =
    let k = g.V.Value in
    let es = c.args.edits.now in
    let e = c.edit-item.result in
    let many = length-take-le c.min-many.result es (omega arith) in
    record {
      ran =
          ran_more k.shift k.same k.clear es c.loop-i.answers c.loop-i.i e _ c.args.self.now.head c.loop-i.self.head c.args.self.now.slots.now c.loop-i.self.slots.now c.apply.new.self.head c.apply.new.self.slots.now
          (omega arith) (omega arith) (c.edit-item.is ∙ get_or-take c.min-many.result es c.loop-i.i e (omega arith)) c.loop-i.invariant.ran (search rules);
      rest = behind_kept c.loop-i.answers c.args.answers.now c.loop-i.i _ c.loop-i.invariant.rest;
      same_row = search rules;
    }

pub returns-clause-ran : goal.returns-clause-ran
returns-clause-ran g c =
    let many = length-take-le c.min-many.result c.args.edits.now (omega arith) in
    let all = calls_all c.loop-i.i c.args.edits.now c.loop-i.answers (omega arith) in
    rw all at c.loop-i.invariant.ran
