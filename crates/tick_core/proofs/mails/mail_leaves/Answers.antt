use Rattle.std.proofs.Common.{get_or, set, ap, ◌∙◌}
use Rattle.std.proofs.lemmas.List.Edits.{map_over_more}
use Rattle.book_lists.specs.declared.mails.Mail.{Mail}
use Rattle.book_lists.specs.Mailing.{mail_goes}
use Rattle.tick_core.proofs.mails.mail_leaves.Goals as goal

pub loop-mail-preserved : goal.loop-mail-preserved
loop-mail-preserved c =
    let now = c.loop-mail.mails in
    let i = c.loop-mail.mail-index in
    let goes = mail_goes c.args.member c.args.closed in
    let here : Mail = get_or now i c.mail-item.result in
    ap (set now i) c.mark_leave.ensures
    ∙ map_over_more goes c.args.mails.now now i here c.loop-mail-test.true c.loop-mail.invariant (ap (λ (d : Mail). get_or now i d) c.mail-item.is)
