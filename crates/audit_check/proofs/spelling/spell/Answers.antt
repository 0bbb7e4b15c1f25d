use Rattle.std.proofs.Common.{refl, ap, length, ◌∙◌, ◌+◌}
use Rattle.std.specs.List.{flat_map}
use Rattle.rtp_head.specs.Rtp.{head_octets}
use Rattle.audit_check.proofs.Copies.{spelled}
use Rattle.audit_check.proofs.spelling.spell.Goals as goal

pub returns-clause-spelled : goal.returns-clause-spelled
returns-clause-spelled c =
    spelled c.copy_from_slice.new.self c.copy_from_slice-2.new.self (head_octets c.args.packet.now.head) (flat_map (λ octets. octets) c.args.packet.now.payload) _ 12 _ _
    (c.copy_from_slice.ensures.after ∙ c.write.ensures.octets) (c.copy_from_slice-2.ensures.after ∙ c.as_slice-payload.ensures.value) refl
    (ap (λ xs. 12 + length xs) c.as_slice-payload.ensures.value)
