-- What holds of each core that a Book stands for, as it holds of the one that it went on from.
use Rattle.std.proofs.Common.{◌≡◌, ℕ, List, ◌∙◌, sym, subst}
use Rattle.conference_spec.specs.Codec.{g726}
use Rattle.conference_spec.specs.Feed.{closes, collects}
use Rattle.conference_spec.specs.Machine.{Run, Core}
use Rattle.conference_spec.specs.Tasks.{due}
use Rattle.conference_spec.proofs.Equal.{g726-tells}
use Rattle.conference_spec.proofs.Stages.{Rise}
use Rattle.conference_spec.proofs.Told.{told}
use Rattle.conference_spec.proofs.Twins.{twins-agree}
use Rattle.tick_core.specs.declared.book.Book.{Book}
use Rattle.tick_core.specs.Standing.{Stands}

-- its runs have rising numbers
pub numbers-rise : (b : Book) (c : Core) → Stands b c → Rise 0 c.issued c.runs
numbers-rise b c st =
    let t = st.twins in
    subst (λ (rs : List Run). Rise 0 c.issued rs) t.runs (subst (λ (n : ℕ). Rise 0 n st.on.runs) t.issued st.is.kept.carried.numbers)

-- where each tick that was closed is collected, just the runs that were due had their numbers
pub issued-due : (b : Book) (c : Core) → Stands b c → collects c.feed ≡ closes c.feed → c.issued ≡ due g726 c.feed
issued-due b c st even =
    let t = st.twins in
    let a = twins-agree g726 st.old st.other st.since st.on c t in
    sym t.issued ∙ (told g726 g726-tells st.on st.is.kept).counted.at_end (a.collected ∙ even ∙ sym a.closed) ∙ a.runs
