use Rattle.std.proofs.Common.{◌≡◌, ◌∙◌, ◌≤◌, ◌+◌, ℕ, ◌++◌, List, length, take, subst, arith}
use Rattle.std.proofs.lemmas.List.{take_all}
use Rattle.conference_spec.specs.declared.Packet.{Packet}
use Rattle.conference_spec.specs.Codec.{g726}
use Rattle.conference_spec.specs.Packets.{rest}
use Rattle.desk_run.proofs.Remaining.{rest-lawful}
use Rattle.audit_check.specs.Sendings.{sent_in}
use Rattle.audit_check.specs.Comparing.{Compared}
use Rattle.audit_check.proofs.Handing.{as-read, one-more-in}
use Rattle.audit_check.proofs.checking.take_rest.Goals as goal

pub take-requires-clause-begun : goal.take-requires-clause-begun
take-requires-clause-begun c = (_, c.loop-i.invariant.compared c.requires.even.0 c.requires.begun.0 c.requires.even.1 c.requires.begun.1)

pub take-requires-clause-lawful : goal.take-requires-clause-lawful
take-requires-clause-lawful c = rest-lawful c.args.book.now c.loop-i.i c.rest.result c.rest.ensures c.requires.even

pub loop-i-preserved : goal.loop-i-preserved
loop-i-preserved c =
    let k = c.args.compare.now.ticks in
    let i = c.loop-i.i in
    record {
      out = c.take.ensures.out ∙ c.loop-i.invariant.out;
      ticks = c.take.ensures.ticks ∙ c.loop-i.invariant.ticks;
      compared = λ h ss s was.
          one-more-in c.take.new.self k c.loop-i.compare.ticks i (rest g726 h) c.rest.result ss c.loop-i.invariant.ticks
          (as-read c.args.book.now i c.rest.result h c.rest.ensures s)
          (c.take.ensures.compared (ss ++ sent_in k (take i (rest g726 h))) (c.loop-i.invariant.compared h ss s was));
      many = c.loop-i.invariant.many;
    }

pub returns-clause-compared : goal.returns-clause-compared
returns-clause-compared c h ss s was =
    let many = c.loop-i.invariant.many h s in
    let all : take c.loop-i.i (rest g726 h) ≡ rest g726 h = take_all c.loop-i.i (rest g726 h) (omega arith) in
    subst (λ (ps : List Packet). Compared c.loop-i.compare (ss ++ sent_in c.args.compare.now.ticks ps)) all (c.loop-i.invariant.compared h ss s was)
