-- What a line of samples is given.
use Rattle.std.proofs.Common.{◌≡◌, ℕ, List, map, refl}
use Rattle.jitter_line.specs.Kept.{Kept}
use Rattle.session_spec.specs.Talkers.{placed}
use Rattle.desk.specs.declared.samples.Companding.{Companding}
use Rattle.desk.specs.declared.samples.Companding.TheVariants.{Mu, A}
use Rattle.desk.specs.declared.ear.Ear.TheVariants.{Law}
use Rattle.desk.specs.Ears.{expanded, law_of}

pub placed-samples : (law : Companding) (line : Kept) (octets : List ℕ) → placed (law_of (Law law line)) octets ≡ map (expanded law) octets
placed-samples Mu line octets = refl
placed-samples A line octets = refl
