use Rattle.std.proofs.Common.{rules, arith}
use Rattle.std.proofs.lemmas.Grind.{common_steps}
use Rattle.roster.proofs.open.OpenRoster.add_device.Goals as goal

pub invariant_of-self : goal.invariant_of-self
invariant_of-self c = record {
  sound = record {
    few_devices = grind (arith, common_steps);
    few_sets = search rules;
    devices = grind (arith, common_steps);
    twins = grind (arith, common_steps);
    shaped = search rules;
    housed = grind (arith, common_steps);
    apart = search rules;
  };
}
