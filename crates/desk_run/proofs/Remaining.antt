-- What is left after the last tick.
use Rattle.std.proofs.Common.{◌≡◌, ℕ, ◌≤◌, ◌+◌, List, length, get_or, take, sym, ap, ◌∙◌, subst, arith, Option, Some}
use Rattle.std.specs.Prelude.{slice_get}
use Rattle.std.proofs.lemmas.List.{take_all}
use Rattle.std.proofs.lemmas.Option.{get_or_from_slice_get, slice_get_within}
use Rattle.edge_io.specs.Told.{Grows, GrowsByFront}
use Rattle.conference_spec.specs.declared.Packet.{Packet}
use Rattle.conference_spec.specs.Codec.{g726}
use Rattle.conference_spec.specs.Feed.{Feed, closes, collects}
use Rattle.conference_spec.specs.Machine.{Core}
use Rattle.conference_spec.specs.Packets.{rest}
use Rattle.session_spec.specs.Answer.{tick_text}
use Rattle.tick_core.specs.declared.book.Book.{Book}
use Rattle.tick_core.specs.Standing.{Stands, IsCollected}
use Rattle.desk_run.specs.Handing.{packet_text}
use Rattle.desk_run.specs.BookSide.{StandsFor, IsEven}
use Rattle.desk_run.proofs.BookFeed.{sent-sendable}
use Rattle.desk_run.proofs.Texts.{wrote_more, wrote_front}

-- a Book that handed out all that was closed has collected it
pub even-collected : (b : Book) → IsEven b → IsCollected b
even-collected b (f, s, even) = (s.core, s.stands, subst (λ (h : Feed). collects h ≡ closes h) (sym s.feed) even)

-- what its readers say of the core holds of the feed
pub as-many : (b : Book) (n : ℕ) (f : Feed) → ((c : Core) → Stands b c → n ≡ length (rest g726 c.feed)) → StandsFor b f → n ≡ length (rest g726 f)
as-many b n f many s = many s.core s.stands ∙ ap (λ (h : Feed). length (rest g726 h)) s.feed

as-read : (b : Book) (i : ℕ) (p : Packet) (f : Feed) → ((c : Core) → Stands b c → slice_get (rest g726 c.feed) i ≡ Some p) → StandsFor b f → slice_get (rest g726 f) i ≡ Some p
as-read b i p f read s = subst (λ (h : Feed). slice_get (rest g726 h) i ≡ Some p) s.feed (read s.core s.stands)

-- each packet that is left may be sent
pub rest-lawful : (b : Book) (i : ℕ) (p : Packet) → ((c : Core) → Stands b c → slice_get (rest g726 c.feed) i ≡ Some p) → IsEven b → p.head.pt ≤ 127
rest-lawful b i p read (f, s, even) =
    let at = as-read b i p f read s in
    let ps = rest g726 f in
    let same : get_or ps i p ≡ p = get_or_from_slice_get ps i p p at in
    subst (λ (q : Packet). q.head.pt ≤ 127) same (sent-sendable (closes f) f s.lawful i p (slice_get_within ps i p at))

module _ (b : Book) (o m n : Option (List ℕ)) (k i : ℕ) (p : Packet) (read : (c : Core) → Stands b c → slice_get (rest g726 c.feed) i ≡ Some p)
    (was : (f : Feed) → StandsFor b f → Grows o m (tick_text k (take i (rest g726 f)))) where
  -- one more is written
  pub rest-more : Grows m n (packet_text k p) → (f : Feed) → StandsFor b f → Grows o n (tick_text k (take (i + 1) (rest g726 f)))
  rest-more grew f s =
      let ps = rest g726 f in
      let at = as-read b i p f read s in
      wrote_more o m n k i ps p (slice_get_within ps i p at) (sym (get_or_from_slice_get ps i p p at)) (was f s) grew

  -- or a front of it
  pub rest-front : GrowsByFront m n (packet_text k p) → (f : Feed) → StandsFor b f → GrowsByFront o n (tick_text k (rest g726 f))
  rest-front grew f s =
      let ps = rest g726 f in
      let at = as-read b i p f read s in
      wrote_front o m n k i ps p (slice_get_within ps i p at) (sym (get_or_from_slice_get ps i p p at)) (was f s) grew

-- all are written
pub rest-all : (b : Book) (o n : Option (List ℕ)) (k i : ℕ) → ((f : Feed) → StandsFor b f → i ≡ length (rest g726 f))
    → ((f : Feed) → StandsFor b f → Grows o n (tick_text k (take i (rest g726 f)))) → (f : Feed) → StandsFor b f → Grows o n (tick_text k (rest g726 f))
rest-all b o n k i many was f s =
    let ps = rest g726 f in
    subst (λ (qs : List Packet). Grows o n (tick_text k qs)) (take_all i ps (omega (arith, many f s))) (was f s)
