-- The reports that the open accounts give are those that are due.
use Rattle.std.proofs.Common.{◌≡◌, ◌∙◌, ℕ, suc, ◌+◌, ◌-◌, ◌%◌, Bool, true, false, List, [], ◌∷◌, ◌++◌, length, map, refl, sym, ap, arith, Option, Some, None}
use Rattle.std.specs.Prelude.{◌==◌, nat_le, unwrap_or, is_none, if◌then◌else◌}
use Rattle.std.specs.List.{filter, flat_map}
use Rattle.std.proofs.lemmas.Bool.{leb-true}
use Rattle.std.proofs.lemmas.Bool.Decides.{nat_tests}
use Rattle.rtcp_pack.specs.declared.report.Report.{Report}
use Rattle.conference_spec.specs.declared.Packet.{Packet}
use Rattle.conference_spec.specs.Coding.{Coder}
use Rattle.conference_spec.specs.Feed.{Feed, Guest, Listener, guests, listeners, closes, before, until}
use Rattle.conference_spec.specs.Packets.{rest}
use Rattle.conference_spec.proofs.Members.{In}
use Rattle.conference_spec.proofs.Sends.{dated, until-dated, listeners-present}
use Rattle.session_spec.specs.Answer.{sent_to}
use Rattle.session_spec.specs.Laws.{packets_to}
use Rattle.live_spec.specs.Reports.{report_of, reports_to, left_at, last_reports, tick_reports, end_reports}
use Rattle.live_tally.specs.declared.account.Total.{Total}
use Rattle.live_tally.specs.declared.tallies.Tallies.{Tallies}
use Rattle.live_tally.specs.Accounts.{report_for, regular_of, last_of, end_of, due_at}
use Rattle.live_tally.specs.Kept.{Keeps, account_of, open_accounts, total_of, total_at}
use Rattle.live_tally.proofs.Picking.{over-map, picked, picked-all}

abbrev still : ℕ → Guest → Bool
still k g = nat_le k (unwrap_or g.left k)

le-self : (k : ℕ) → nat_le k k ≡ true
le-self k = grind (arith, nat_tests)

report-is : (g : Guest) (n m : ℕ) (bye : Bool) (total : Option Total) (ps : List Packet) → n ≡ m → total ≡ total_of ps →
    report_for (account_of g) n bye total ≡ report_of g.listener.spec m bye ps
report-is g n m bye total [] e is = rw (e, is) refl
report-is g n m bye total (p ∷ ps) e is = rw (e, is) refl

none-within : (k : ℕ) (g : Guest) → is_none g.left ≡ true → still k g ≡ true
none-within k g none = by g.left refl none
  where
    by : (o : Option ℕ) → g.left ≡ o → is_none o ≡ true → still k g ≡ true
    by None e none = rw e (le-self k)
    by (Some j) e none = cc

left-is : (k : ℕ) (g : Guest) → left_at k g ≡ true → g.left ≡ Some k
left-is k g left = by g.left refl left
  where
    by : (o : Option ℕ) → g.left ≡ o → (elim o [ None ↦ false | Some j ↦ j == k ]) ≡ true → g.left ≡ Some k
    by None e left = cc
    by (Some j) e left = let same : j ≡ k = grind (arith, nat_tests) in e ∙ ap Some same

left-within : (k : ℕ) (g : Guest) → left_at k g ≡ true → still k g ≡ true
left-within k g left = rw (left-is k g left) (le-self k)

module _ (coder : Coder) (t : Tallies) (f : Feed) (packets : List Packet) (keeps : Keeps coder t f packets) where
  abbrev own : ℕ → List Packet
  own q = packets_to q packets

  present-heard : (g : Guest) → In g (guests coder f) → is_none g.left ≡ true → closes f + 1 - g.listener.from ≡ length g.listener.heard + 1
  present-heard g i none = let d = (dated coder f g i).here none in omega arith

  left-heard : (g : Guest) → In g (guests coder f) → left_at (closes f) g ≡ true → closes f - g.listener.from ≡ length g.listener.heard
  left-heard g i left =
      let is = left-is (closes f) g left in
      let gone : is_none g.left ≡ false = rw is refl in
      let d : unwrap_or g.left 0 ≡ g.listener.from + length g.listener.heard = (dated coder f g i).gone gone in
      let at : closes f ≡ g.listener.from + length g.listener.heard = rw is at d in
      omega arith

  pub regular-due : flat_map (regular_of (total_at t) (closes f)) (open_accounts coder f)
      ≡ reports_to (λ l. length l.heard + 1) false packets (listeners coder f)
  regular-due =
      over-map (regular_of (total_at t) (closes f)) account_of (filter (still (closes f)) (guests coder f))
      ∙ picked (λ (g : Guest). is_none g.left) (still (closes f)) (λ (g : Guest). report_for (account_of g) (closes f + 1 - g.listener.from) false (total_at t g.listener.spec.member))
      (λ (g : Guest). g.listener) (λ (l : Listener). report_of l.spec (length l.heard + 1) false (own l.spec.member)) (guests coder f) (none-within (closes f))
      (λ g i none. report-is g _ _ false _ _ (present-heard g i none) (keeps.totals g.listener.spec.member))
      ∙ ap (reports_to (λ l. length l.heard + 1) false packets) (sym (listeners-present coder f))

  pub last-due : flat_map (last_of (total_at t) (closes f)) (open_accounts coder f)
      ≡ reports_to (λ l. length l.heard) true packets (map (λ g. g.listener) (filter (left_at (closes f)) (guests coder f)))
  last-due =
      over-map (last_of (total_at t) (closes f)) account_of (filter (still (closes f)) (guests coder f))
      ∙ picked (left_at (closes f)) (still (closes f)) (λ (g : Guest). report_for (account_of g) (closes f - g.listener.from) true (total_at t g.listener.spec.member))
      (λ (g : Guest). g.listener) (λ (l : Listener). report_of l.spec (length l.heard) true (own l.spec.member)) (guests coder f) (left-within (closes f))
      (λ g i left. report-is g _ _ true _ _ (left-heard g i left) (keeps.totals g.listener.spec.member))

  still-heard : (g : Guest) → In g (guests coder f) → still (closes f) g ≡ true → closes f - g.listener.from ≡ length g.listener.heard
  still-heard g i here =
      let most = (dated coder f g i).within in
      let all = until-dated coder f g i in
      let least = leb-true (closes f) (until f g) here in
      omega arith

  pub end-due : flat_map (end_of (total_at t) (closes f)) (open_accounts coder f)
      ≡ reports_to (λ l. length l.heard) true packets (map (λ g. g.listener) (filter (still (closes f)) (guests coder f)))
  end-due =
      over-map (end_of (total_at t) (closes f)) account_of (filter (still (closes f)) (guests coder f))
      ∙ picked-all (still (closes f)) (λ (g : Guest). report_for (account_of g) (closes f - g.listener.from) true (total_at t g.listener.spec.member))
      (λ (g : Guest). g.listener) (λ (l : Listener). report_of l.spec (length l.heard) true (own l.spec.member)) (guests coder f)
      (λ g i here. report-is g _ _ true _ _ (still-heard g i here) (keeps.totals g.listener.spec.member))

-- ---- what the calls answer ----

pub ends : (coder : Coder) (t : Tallies) (h : Feed) (ticks : ℕ) → closes h ≡ ticks → Keeps coder t h (sent_to coder ticks h ++ rest coder h) →
    (reports : List Report) → reports ≡ flat_map (end_of (total_at t) ticks) t.accounts.items → reports ≡ end_reports coder ticks h
ends coder t h ticks at keeps reports is =
    is ∙ ap (flat_map (end_of (total_at t) ticks)) keeps.accounts
    ∙ ap (λ (k : ℕ). flat_map (end_of (total_at t) k) (open_accounts coder h)) (sym at)
    ∙ end-due coder t h (sent_to coder ticks h ++ rest coder h) keeps
    ∙ ap (λ (k : ℕ). reports_to (λ l. length l.heard) true (sent_to coder ticks h ++ rest coder h) (map (λ g. g.listener) (filter (λ (g : Guest). nat_le k (until h g)) (guests coder h)))) at

pub due : (coder : Coder) (t : Tallies) (h : Feed) (k : ℕ) → closes (before k h) ≡ k → Keeps coder t (before k h) (sent_to coder (suc k) h) →
    (reports : List Report) → reports ≡ due_at (total_at t) k t.accounts.items → reports ≡ tick_reports coder k h
due coder t h k at keeps reports is =
    is ∙ ap (due_at (total_at t) k) keeps.accounts
    ∙ by ((k + 1) % 250 == 0)
  where
    regular : flat_map (regular_of (total_at t) k) (open_accounts coder (before k h)) ≡ reports_to (λ l. length l.heard + 1) false (sent_to coder (suc k) h) (listeners coder (before k h))
    regular =
        ap (λ (j : ℕ). flat_map (regular_of (total_at t) j) (open_accounts coder (before k h))) (sym at)
        ∙ regular-due coder t (before k h) (sent_to coder (suc k) h) keeps

    last : flat_map (last_of (total_at t) k) (open_accounts coder (before k h)) ≡ last_reports coder k h
    last =
        ap (λ (j : ℕ). flat_map (last_of (total_at t) j) (open_accounts coder (before k h))) (sym at)
        ∙ last-due coder t (before k h) (sent_to coder (suc k) h) keeps
        ∙ ap (λ (j : ℕ). reports_to (λ l. length l.heard) true (sent_to coder (suc k) h) (map (λ g. g.listener) (filter (left_at j) (guests coder (before k h))))) at

    by : (b : Bool) →
        (if b then flat_map (regular_of (total_at t) k) (open_accounts coder (before k h)) else []) ++ flat_map (last_of (total_at t) k) (open_accounts coder (before k h))
        ≡ (if b then reports_to (λ l. length l.heard + 1) false (sent_to coder (suc k) h) (listeners coder (before k h)) else []) ++ last_reports coder k h
    by true = ap (λ rs. rs ++ flat_map (last_of (total_at t) k) (open_accounts coder (before k h))) regular ∙ ap (λ rs. reports_to (λ l. length l.heard + 1) false (sent_to coder (suc k) h) (listeners coder (before k h)) ++ rs) last
    by false = last
