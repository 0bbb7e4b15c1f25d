-- Of the cores that a Book stands for, one goes on from what was seen.
use Rattle.std.proofs.Common.{◌≡◌, ℕ, ◌+◌, ◌≤◌, inl, inr, List, [], ◌∷◌, ◌++◌, length, refl, sym, ◌∙◌, ap, arith, append-nil, length-append}
use Rattle.conference_spec.specs.declared.Entry.{Entry}
use Rattle.conference_spec.specs.declared.Entry.TheVariants.{Join, Leave, Close, Collect, Cut, End}
use Rattle.conference_spec.specs.Feed.{Feed, cut}
use Rattle.conference_spec.specs.Machine.{Core, Run, begun}
use Rattle.conference_spec.specs.Members.{In, Rise}
use Rattle.conference_spec.proofs.Stages.{rise-above}
use Rattle.book_lock.specs.Histories.{GoesOn}
use Rattle.tick_core.specs.declared.book.Book.{Book}
use Rattle.tick_core.specs.Standing.{Stands, since_cut}
use Rattle.tick_core.specs.Locking.{Parts, StandsWith, core_of}
use Rattle.tick_core.proofs.Follows.{cut-whole}
use Rattle.tick_core.proofs.Twins.{entries-all, issued-all}

-- ---- lists of runs whose numbers rise ----

-- of two that have each other's heads, the heads are one run
heads : (low high low' high' : ℕ) (r q : Run) (rs qs : List Run) → Rise low high (r ∷ rs) → Rise low' high' (q ∷ qs)
    → In r (q ∷ qs) → In q (r ∷ rs) → r ≡ q
heads low high low' high' r q rs qs rise rise' (inl e) j = sym e
heads low high low' high' r q rs qs rise rise' (inr i) (inl e) = e
heads low high low' high' r q rs qs rise rise' (inr i) (inr j) =
    absurd (let a = rise-above q.number high' qs rise'.1 r i in let b = rise-above r.number high rs rise.1 q j in omega arith)

-- whoever stands behind the one's head stands behind the other's
tails : (low high : ℕ) (r q x : Run) (rs qs : List Run) → Rise low high (r ∷ rs) → r ≡ q → In x rs → In x (q ∷ qs) → In x qs
tails low high r q x rs qs rise same i (inl e) =
    absurd (let a = rise-above r.number high rs rise.1 x i in let b = ap (λ (y : Run). y.number) (same ∙ e) in omega arith)
tails low high r q x rs qs rise same i (inr j) = j

-- two of them with the same runs are one list
pub one_list : (low high low' high' : ℕ) (rs qs : List Run) → Rise low high rs → Rise low' high' qs
    → ((x : Run) → In x rs → In x qs) → ((x : Run) → In x qs → In x rs) → rs ≡ qs
one_list low high low' high' [] [] rise rise' to from = refl
one_list low high low' high' [] (q ∷ qs) rise rise' to from = absurd (from q (inl refl))
one_list low high low' high' (r ∷ rs) [] rise rise' to from = absurd (to r (inl refl))
one_list low high low' high' (r ∷ rs) (q ∷ qs) rise rise' to from =
    let same = heads low high low' high' r q rs qs rise rise' (to r (inl refl)) (from q (inl refl)) in
    let rest = one_list r.number high q.number high' rs qs rise.1 rise'.1
    (λ x i. tails low high r q x rs qs rise same i (to x (inr i)))
    (λ x i. tails low' high' q r x qs rs rise' (sym same) i (from x (inr i))) in
    λ i. same i ∷ rest i

-- ---- the newest entries ----

-- the newest entry; a feed that is empty goes on as one that was cut
abbrev newest : Feed → Entry
newest [] = Cut
newest (e ∷ h) = e

newest-cut : (h : Feed) → newest (cut h) ≡ Cut
newest-cut [] = refl
newest-cut (Join spec ∷ h) = newest-cut h
newest-cut (Leave member ∷ h) = newest-cut h
newest-cut (Close tick ∷ h) = newest-cut h
newest-cut (Collect ∷ h) = newest-cut h
newest-cut (Cut ∷ h) = refl
newest-cut (End ∷ h) = newest-cut h

newest-on : (s h : Feed) → newest h ≡ Cut → newest (s ++ h) ≡ newest s
newest-on [] h e = e
newest-on (x ∷ s) h e = refl

newest-whole : (h : Feed) → cut h ≡ h → newest h ≡ Cut
newest-whole h whole = ap newest (sym whole) ∙ newest-cut h

-- a Book keeps it, for each feed
newest-kept : (b : Book) (c : Core) → Stands b c → newest c.feed ≡ newest b.log.feed.since
newest-kept b c s =
    let t = s.twins in
    let here = ap newest t.second ∙ newest-on s.since s.other (newest-whole s.other t.second_cut.whole) in
    let there = ap newest t.first ∙ newest-on s.since s.old (newest-whole s.old t.first_cut.whole) in
    let kept = newest-on (since_cut s.on.feed) (cut s.on.feed) (newest-cut s.on.feed) ∙ ap newest (sym s.is.feed.since) in
    let log = ap newest (cut-whole s.on.feed) ∙ kept in
    here ∙ (sym there ∙ log)

-- two feeds that go on from one by an entry at the most
one-feed : (h since since' f f' : Feed) → f ≡ since ++ h → f' ≡ since' ++ h → length f ≡ length f' → length f ≤ length h + 1 → newest f ≡ newest f' → f ≡ f'
one-feed h [] [] f f' is is' long few new = is ∙ sym is'
one-feed h [] (e' ∷ since') f f' is is' long few new =
    absurd (let a = ap length is in let b = ap length is' in let l = length-append since' h in omega arith)
one-feed h (e ∷ since) [] f f' is is' long few new =
    absurd (let a = ap length is in let b = ap length is' in let l = length-append since h in omega arith)
one-feed h (e ∷ []) (e' ∷ []) f f' is is' long few new =
    is ∙ (ap (λ (x : Entry). x ∷ h) (sym (ap newest is) ∙ (new ∙ ap newest is')) ∙ sym is')
one-feed h (e ∷ []) (e' ∷ d' ∷ since') f f' is is' long few new =
    absurd (let a = ap length is in let b = ap length is' in let l = length-append since' h in omega arith)
one-feed h (e ∷ d ∷ since) (e' ∷ since') f f' is is' long few new =
    absurd (let a = ap length is in let l = length-append since h in omega arith)

-- ---- cores ----

-- all cores of a Book have the same numbers and runs
one-issued : (b : Book) (c d : Core) → Stands b c → Stands b d → c.issued ≡ d.issued
one-issued b c d s t = sym (issued-all b c s) ∙ issued-all b d t

one-runs : (b : Book) (c d : Core) → Stands b c → Stands b d → c.runs ≡ d.runs
one-runs b c d s t =
    let one = one_list 0 s.on.issued 0 t.on.issued s.on.runs t.on.runs s.is.kept.carried.numbers t.is.kept.carried.numbers
    (λ x i. (t.is.carries.runs x).1 ((s.is.carries.runs x).0 i))
    (λ x i. (s.is.carries.runs x).1 ((t.is.carries.runs x).0 i)) in
    sym s.twins.runs ∙ (one ∙ t.twins.runs)

-- of those whose feeds go on from one feed, by an entry at the most, there is one
pub one_core : (b : Book) (h : Feed) (c d : Core) → Stands b c → Stands b d → GoesOn h c.feed → GoesOn h d.feed → length c.feed ≤ length h + 1 → c ≡ d
one_core b h c d s t goes goes' few =
    let long = sym (entries-all b c s) ∙ entries-all b d t in
    let new = newest-kept b c s ∙ sym (newest-kept b d t) in
    let feed = one-feed h goes.since goes'.since c.feed d.feed goes.grown goes'.grown long few new in
    let issued = one-issued b c d s t in
    let runs = one-runs b c d s t in
    λ i. record { feed = feed i; issued = issued i; runs = runs i }

-- a Book to which nothing has happened stands for the empty feed
pub fresh_feed : (b : Book) (h : Feed) (parts : Parts) → Stands b begun → StandsWith b h parts → h ≡ []
fresh_feed b h parts s t =
    let same = one_core b [] begun (core_of h parts) s t (record { since = []; grown = refl }) (record { since = h; grown = sym (append-nil h) }) (omega arith) in
    ap (λ (c : Core). c.feed) (sym same)
