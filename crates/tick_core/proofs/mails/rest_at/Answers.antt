use Rattle.std.proofs.Common.{◌+◌, arith}
use Rattle.tick_core.proofs.Turning.{IsAhead, skip-mail, pass-mail}
use Rattle.tick_core.proofs.mails.rest_at.Goals.{then-len-gt0+else-before-eq0, else-len-gt0}
use Rattle.tick_core.proofs.mails.rest_at.Goals as goal

pub loop-mail-preserved : goal.loop-mail-preserved
loop-mail-preserved c =
    let ms = c.args.mails.now in
    let i = c.loop-mail.mail-index in
    let n = c.loop-mail.before in
    let m = c.mail-item.result in
    let inv = c.loop-mail.invariant in
    let size = c.len.ensures.value in
    let next : IsAhead ms c.args.i (i + 1) c.if-len-gt0.before = elim c.if-len-gt0.branch [
      | then-len-gt0+else-before-eq0 w ↦
          (let some = w.if-len-gt0.true in
          let other = w.if-before-eq0.false in
          pass-mail ms c.args.i i n c.if-len-gt0.before m c.loop-mail-test.true c.mail-item.is (omega arith) (omega arith) w.before-is inv.ahead inv.there)
      | else-len-gt0 w ↦
          (let none = w.if-len-gt0.false in
          skip-mail ms c.args.i i n c.if-len-gt0.before m c.loop-mail-test.true c.mail-item.is (omega arith) w.before-is inv.ahead inv.there)
    ] in
    record { ahead = next.ahead; there = next.there }
