use Rattle.conference_spec.specs.Machine.{core_after}
use Rattle.conference_spec.proofs.Events.{always-kept}
use Rattle.group_spec.specs.Groups.{groups}
use Rattle.group_spec.proofs.Carrying.{carry, carry-rest}
use Rattle.group_spec.proofs.groups_carry.Goals as goal

pub returns : goal.returns
returns c = record {
  always = λ coder tells events. carry coder tells (core_after coder events) (always-kept coder tells events);
  at_rest = λ coder tells events idle.
      let core = core_after coder events in
      let k = always-kept coder tells events in
      carry-rest coder tells core k idle (groups coder core) (carry coder tells core k);
}
