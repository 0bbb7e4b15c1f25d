use Rattle.std.proofs.Common.{refl}
use Rattle.rtp_dump.proofs.Written.{joined_piece}
use Rattle.audit_check.proofs.spelling.join.Goals as goal

pub returns-clause-joined : goal.returns-clause-joined
returns-clause-joined c =
    joined_piece _ _ c.args.text.now c.args.head.now c.args.octets.now _ _ c.copy_from_slice.ensures.after c.copy_from_slice-2.ensures.after c.told-head refl
