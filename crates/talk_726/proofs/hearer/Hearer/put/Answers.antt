use Rattle.std.proofs.Common.{◌∷◌}
use Rattle.jitter_line.specs.Histories.{Puts, packet}
use Rattle.talk_726.proofs.hearer.Hearer.put.Goals as goal

pub invariant_of-self : goal.invariant_of-self
invariant_of-self c =
    let kept = c.self.invariant in
    record {
      history = Puts (packet c.args.stamp c.read_places.new.places) ∷ kept.history;
      stands = c.put-put.ensures.stands kept.history kept.stands;
      codes = (c.read_places.ensures.range, kept.codes);
    }
