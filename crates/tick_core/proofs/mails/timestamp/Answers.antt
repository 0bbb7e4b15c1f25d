use Rattle.std.proofs.Common.{◌*◌, ◌+◌, ◌%◌, ℕ, ap, ◌∙◌}
use Rattle.std.proofs.lemmas.Nat.{mul-mod_second}
use Rattle.std.proofs.Math.Nat.{add-mod-mod}
use Rattle.tick_core.proofs.mails.timestamp.Goals as goal

pub returns : goal.returns
returns c =
    let a : ℕ = 160 * c.args.payloads in
    let m : ℕ = 4294967296 in
    ap (λ (n : ℕ). (c.args.first + n) % m) (mul-mod_second a c.args.sent m) ∙ add-mod-mod c.args.first (a * c.args.sent) m
