use Rattle.std.proofs.Common.{◌+◌, ◌∙◌, ap, get_or, ◌-◌, arith}
use Rattle.table.proofs.Finding.{found, before_le}
use Rattle.table.proofs.extents.Extents.extent_of.Goals as goal

pub bounds-slots-count : goal.bounds-slots-count
bounds-slots-count g c =
    let there = found g.V.Value.shift c.args.self.now.slots.now c.args.self.now.length c.args.sector c.args.self.now.covers c.requires.inside in
    omega (arith, there.0, c.requires.counted, before_le (c.args.sector + 1) c.args.self.now.slots.now)

pub offset_bounds-slots-count : goal.offset_bounds-slots-count
offset_bounds-slots-count g c = omega (arith, c.requires.counted, before_le (c.args.sector + 1) c.args.self.now.slots.now)

pub returns : goal.returns
returns g c =
    let there = found g.V.Value.shift c.args.self.now.slots.now c.args.self.now.length c.args.sector c.args.self.now.covers c.requires.inside in
    let holds = there.1 c.index-slots-count.result (c.index-slots-count.is ∙ ap (λ j. get_or c.args.self.now.slots.now (j - 1) c.index-slots-count.result) c.requires.counted) in
    record { starts = holds.0; value = holds.1 }
