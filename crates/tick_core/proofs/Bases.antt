-- A Book stands for each feed that has its base and goes on as it did, and for no other.
use Rattle.std.proofs.Common.{◌≡◌, true, [], ◌∷◌, ◌++◌, length, refl, sym, ◌∙◌, ap, arith, length-append}
use Rattle.std.proofs.lemmas.Bool.{and_parts}
use Rattle.conference_spec.specs.declared.Entry.TheVariants.{Join, Leave, Close, Collect, Cut, End}
use Rattle.conference_spec.specs.Codec.{g726}
use Rattle.conference_spec.specs.Feed.{Feed, cut, is_legal, may_follow}
use Rattle.conference_spec.specs.Base.{Base, base}
use Rattle.conference_spec.specs.Machine.{Core}
use Rattle.conference_spec.proofs.Since.{bases-agree}
use Rattle.book_feed.specs.Logged.{blank}
use Rattle.tick_core.specs.declared.book.Book.{Book}
use Rattle.tick_core.specs.Standing.{Stands, HaveOneBase, since_cut}
use Rattle.tick_core.proofs.Follows.{cut-whole}
use Rattle.tick_core.proofs.Twins.{kept-all}

-- ---- cuts of feeds that go on ----

cut-cut : (h : Feed) → cut (cut h) ≡ cut h
cut-cut [] = refl
cut-cut (Join spec ∷ h) = cut-cut h
cut-cut (Leave m ∷ h) = cut-cut h
cut-cut (Close tick ∷ h) = cut-cut h
cut-cut (Collect ∷ h) = cut-cut h
cut-cut (Cut ∷ h) = refl
cut-cut (End ∷ h) = cut-cut h

cut-append : (s q : Feed) → cut q ≡ q → cut (s ++ q) ≡ cut s ++ q
cut-append [] q e = e
cut-append (Join spec ∷ s) q e = cut-append s q e
cut-append (Leave m ∷ s) q e = cut-append s q e
cut-append (Close tick ∷ s) q e = cut-append s q e
cut-append (Collect ∷ s) q e = cut-append s q e
cut-append (Cut ∷ s) q e = refl
cut-append (End ∷ s) q e = cut-append s q e

legal-cut : (h : Feed) → is_legal g726 h ≡ true → is_legal g726 (cut h) ≡ true
legal-cut [] l = l
legal-cut (Join spec ∷ h) l = legal-cut h (and_parts (may_follow g726 h (Join spec)) (is_legal g726 h) l).1
legal-cut (Leave m ∷ h) l = legal-cut h (and_parts (may_follow g726 h (Leave m)) (is_legal g726 h) l).1
legal-cut (Close tick ∷ h) l = legal-cut h (and_parts (may_follow g726 h (Close tick)) (is_legal g726 h) l).1
legal-cut (Collect ∷ h) l = legal-cut h (and_parts (may_follow g726 h Collect) (is_legal g726 h) l).1
legal-cut (Cut ∷ h) l = l
legal-cut (End ∷ h) l = legal-cut h (and_parts (may_follow g726 h End) (is_legal g726 h) l).1

-- nothing is done since a cut at once
none-since : (q : Feed) → cut q ≡ q → since_cut q ≡ []
none-since q e =
    let long = ap length (cut-whole q) ∙ length-append (since_cut q) (cut q) in
    let same = ap length e in
    no-length (since_cut q) (omega arith)
  where
    no-length : (s : Feed) → length s ≡ 0 → s ≡ []
    no-length [] e = refl
    no-length (x ∷ s) e = absurd (omega arith)

since-append : (s q : Feed) → since_cut q ≡ [] → since_cut (s ++ q) ≡ since_cut s
since-append [] q e = e
since-append (Join spec ∷ s) q e = ap (λ (x : Feed). Join spec ∷ x) (since-append s q e)
since-append (Leave m ∷ s) q e = ap (λ (x : Feed). Leave m ∷ x) (since-append s q e)
since-append (Close tick ∷ s) q e = ap (λ (x : Feed). Close tick ∷ x) (since-append s q e)
since-append (Collect ∷ s) q e = ap (λ (x : Feed). Collect ∷ x) (since-append s q e)
since-append (Cut ∷ s) q e = refl
since-append (End ∷ s) q e = ap (λ (x : Feed). End ∷ x) (since-append s q e)

-- ---- the law of the base ----

-- the core that a Book went on as has the base of each that it stands for
one-base : (b : Book) (c : Core) (s : Stands b c) → HaveOneBase s.on.feed c.feed
one-base b c s =
    let t = s.twins in
    let p = s.old in
    let q = s.other in
    let one = ap cut t.first ∙ cut-append s.since p t.first_cut.whole in
    let other = ap cut t.second ∙ cut-append s.since q t.second_cut.whole in
    record {
      base = ap (base g726) one
          ∙ ((bases-agree g726 p q (cut s.since) t.first_cut t.second_cut t.one_base).bases ∙ ap (base g726) (sym other));
      since = ap since_cut t.first ∙ (since-append s.since p (none-since p t.first_cut.whole)
          ∙ sym (ap since_cut t.second ∙ since-append s.since q (none-since q t.second_cut.whole)));
      legal = legal-cut c.feed (kept-all b c s).carried.legal;
    }

-- so it stands for each core with such a feed
pub stands-each : (b : Book) (c d : Core) → Stands b c → HaveOneBase c.feed d.feed → c.issued ≡ d.issued → c.runs ≡ d.runs → Stands b d
stands-each b c d s like issued runs =
    let o = one-base b c s in
    record {
      on = s.on;
      is = s.is;
      old = cut s.on.feed;
      other = cut d.feed;
      since = since_cut s.on.feed;
      twins = record {
        first = cut-whole s.on.feed;
        second = cut-whole d.feed ∙ ap (λ (x : Feed). x ++ cut d.feed) (sym (o.since ∙ like.since));
        issued = s.twins.issued ∙ issued;
        runs = s.twins.runs ∙ runs;
        first_cut = record { whole = cut-cut s.on.feed; legal = s.is.feed.legal };
        second_cut = record { whole = cut-cut d.feed; legal = like.legal };
        one_base = o.base ∙ like.base;
      };
    }

-- and each for which it stands has such a feed
pub stands-only : (b : Book) (c d : Core) → Stands b c → Stands b d → HaveOneBase c.feed d.feed
stands-only b c d s t =
    let o = one-base b c s in
    let w = one-base b d t in
    record {
      base = sym o.base ∙ (sym s.is.feed.base ∙ t.is.feed.base ∙ w.base);
      since = sym o.since ∙ (sym s.is.feed.since ∙ t.is.feed.since ∙ w.since);
      legal = w.legal;
    }

-- a Book to which nothing has happened stands for the empty feed alone
pub stands-begun : (b : Book) → b.log.feed ≡ blank → (c : Core) → Stands b c → c.feed ≡ []
stands-begun b new c s =
    let o = one-base b c s in
    let k = ap (λ x. x.entries) new in
    let long = ap (λ (x : Base). x.entries) (s.is.feed.base ∙ o.base) in
    let since : since_cut c.feed ≡ [] = sym o.since ∙ (sym s.is.feed.since ∙ ap (λ x. x.since) new) in
    let e = ap length since in
    let n = ap length (cut-whole c.feed) ∙ length-append (since_cut c.feed) (cut c.feed) in
    nothing c.feed (omega arith)
  where
    nothing : (h : Feed) → length h ≡ 0 → h ≡ []
    nothing [] e = refl
    nothing (x ∷ h) e = absurd (omega arith)
