-- What an ear takes, and for which history it stands.
use Rattle.std.specs.Prelude.{ℕ, ℤ}
use Rattle.g711_law.specs.Law.{mu_law, a_law}
use Rattle.roster_text.specs.declared.commands.Law.{Law as TalkLaw}
use Rattle.roster_text.specs.declared.commands.Law.TheVariants as laws
use Rattle.jitter_line.specs.Histories.{History}
use Rattle.jitter_line.specs.Standing.{Stands as LineStands}
use Rattle.talk_726.specs.Kept.{Stands as HearerStands}
use Rattle.desk.specs.declared.samples.Companding.{Companding}
use Rattle.desk.specs.declared.samples.Companding.TheVariants.{Mu, A}
use Rattle.desk.specs.declared.ear.Ear.{Ear}
use Rattle.desk.specs.declared.ear.Ear.TheVariants.{Law, Coded}

-- the sample of an octet
abbrev pub expanded : Companding → ℕ → ℤ
expanded Mu code = mu_law code
expanded A code = a_law code

abbrev pub law_of : Ear → TalkLaw
law_of (Law Mu line) = laws.Mu
law_of (Law A line) = laws.A
law_of (Coded pt hearer) = laws.G726 hearer.rate pt

-- its line, and its decoder where it has one, are just where the history leaves them
abbrev pub Hears : Ear → History → Type 0
Hears (Law law line) h = LineStands line h
Hears (Coded pt hearer) h = HearerStands hearer h
