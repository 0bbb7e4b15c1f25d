use Rattle.std.proofs.Common.{◌≡◌, length, sym, ap, ◌∙◌}
use Rattle.std.proofs.lemmas.List.{take_at}
use Rattle.rtcp_pack.proofs.Sent.{report_taken}
use Rattle.rtcp_pack.proofs.report.write.Goals as goal

pub returns-clause-checked : goal.returns-clause-checked
returns-clause-checked c =
    let same : c.copy_from_slice.new.self ≡ c.octets_of-octets.result.items = c.copy_from_slice.ensures.after ∙ c.deref.ensures.0 in
    report_taken _ c.args.report.now
    (take_at c.copy_from_slice.new.self _ c.len-2.result (ap length same ∙ sym c.len-2.ensures.value) ∙ same ∙ c.octets_of-octets.ensures.octets)
    c.octets_of-octets.ensures.fits
