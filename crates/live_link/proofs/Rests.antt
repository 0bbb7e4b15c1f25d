-- What a Book's reader says of what is left.
use Rattle.std.proofs.Common.{◌≡◌, ℕ, Option, Some, subst}
use Rattle.std.specs.Prelude.{slice_get}
use Rattle.conference_spec.specs.declared.Packet.{Packet}
use Rattle.conference_spec.specs.Codec.{g726}
use Rattle.conference_spec.specs.Feed.{Feed}
use Rattle.conference_spec.specs.Machine.{Core}
use Rattle.conference_spec.specs.Packets.{rest}
use Rattle.tick_core.specs.declared.book.Book.{Book}
use Rattle.tick_core.specs.Standing.{Stands}
use Rattle.desk_run.specs.BookSide.{StandsFor}

pub rest-read : (b : Book) (i : ℕ) (p : Packet) (f : Feed) → ((c : Core) → Stands b c → slice_get (rest g726 c.feed) i ≡ Some p) → StandsFor b f → slice_get (rest g726 f) i ≡ Some p
rest-read b i p f read s = subst (λ (h : Feed). slice_get (rest g726 h) i ≡ Some p) s.feed (read s.core s.stands)
