use Rattle.std.proofs.Common.{◌≡◌, ◌∙◌, ◌≤◌, ◌+◌, ℕ, ◌++◌, ◌∷◌, [], List, length, take, sym, ap, subst, arith}
use Rattle.std.proofs.lemmas.List.{take_all}
use Rattle.std.proofs.lemmas.Option.{get_or_from_slice_get, slice_get_within}
use Rattle.conference_spec.specs.declared.Packet.{Packet}
use Rattle.conference_spec.specs.Packets.{Sending}
use Rattle.audit_check.specs.Sendings.{sent_in}
use Rattle.audit_check.specs.Comparing.{Compared}
use Rattle.audit_check.proofs.Comparing.{at-tick}
use Rattle.audit_check.proofs.Handing.{one-more-in}
use Rattle.audit_check.proofs.compare.Compare.take_tick.Goals as goal

pub take-requires-clause-begun : goal.take-requires-clause-begun
take-requires-clause-begun c = (_, c.loop-i.invariant.compared c.requires.begun.0 c.requires.begun.1)

pub loop-i-preserved : goal.loop-i-preserved
loop-i-preserved c =
    let packets = c.args.packets.now.packets in
    let i = c.loop-i.i in
    let p = c.packet.result in
    record {
      out = c.take.ensures.out ∙ c.loop-i.invariant.out;
      ticks = c.take.ensures.ticks ∙ c.loop-i.invariant.ticks;
      compared = λ ss was.
          one-more-in c.take.new.self c.args.self.now.ticks c.loop-i.self.ticks i packets p ss c.loop-i.invariant.ticks
          c.packet.ensures (c.take.ensures.compared (ss ++ sent_in c.args.self.now.ticks (take i packets)) (c.loop-i.invariant.compared ss was));
    }

pub returns-clause-compared : goal.returns-clause-compared
returns-clause-compared c ss was =
    let packets = c.args.packets.now.packets in
    let all : take c.loop-i.i packets ≡ packets = take_all c.loop-i.i packets (omega arith) in
    at-tick c.loop-i.self (c.loop-i.self.ticks + 1) (ss ++ sent_in c.args.self.now.ticks packets)
    (subst (λ (ps : List Packet). Compared c.loop-i.self (ss ++ sent_in c.args.self.now.ticks ps)) all (c.loop-i.invariant.compared ss was))
