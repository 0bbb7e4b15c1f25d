-- What is heard in rounds, each one look for a datagram and then one at the clock.
use Rattle.std.specs.Prelude.{◌≡◌, ◌≤◌, ℕ, ◌+◌, not, List, length, map, filter, take, drop, is_ok, is_err, Option, IfSome, Some}
use Rattle.rtp_dump.specs.declared.item.DumpItem.{DumpItem}
use Rattle.rtcp_pack.specs.Compound.{compound}
use Rattle.udp_edge.specs.Traffic.{Traffic}
use Rattle.live_spec.specs.Heard.{rounds_in, after_answers, datagrams, is_control, recorded}
use Rattle.live_link.specs.declared.controls.Controls.{Controls}

-- the datagrams of tick k that arrive, as its records: all but those of RTCP
abbrev pub speech : ℕ → List (List ℕ) → List DumpItem
speech k ds = map (recorded k) (filter (λ o. not (is_control o)) ds)

-- more packets of RTCP
abbrev pub with_controls : Controls → List (List ℕ) → Controls
with_controls c os = record {
  heard = c.heard + length (filter (λ o. is_ok (compound o)) os);
  refused = c.refused + length (filter (λ o. is_err (compound o)) os);
}

-- those among these datagrams
abbrev pub with_datagrams : Controls → List (List ℕ) → Controls
with_datagrams c ds = with_controls c (filter is_control ds)

-- so many looks were taken, and these are the datagrams that they found; nothing else is told otherwise
abbrev pub Finds : ℕ → Option Traffic → Option Traffic → List (List ℕ) → Type 0
Finds n old new ds = IfSome old (λ told. (ds ≡ datagrams (take n told.coming)) × (new ≡ Some (record told { coming = drop n told.coming })))

module _ (old new : Option Traffic) (before now : Controls) (P : List (List ℕ) → Type 0) where
  -- one look: what it found is counted, and P holds of it
  pub record Looks : Type 0 where
    pub ds : List (List ℕ)
    pub few : length ds ≤ 1
    pub finds : Finds 1 old new ds
    pub counted : now ≡ with_datagrams before ds
    pub here : P ds

module _ (old new : Option Traffic) (answers after : Option (List ℕ)) (k start : ℕ) (before now : Controls) (P : List (List ℕ) → Type 0) where
  -- the rounds of tick k, as many as the clock tells: what they found is counted, and P holds of it
  pub record Listens : Type 0 where
    pub n : ℕ
    pub ds : List (List ℕ)
    pub rounds_are : IfSome answers (λ told. (n ≡ rounds_in k start told) × (after ≡ Some (after_answers n told)))
    pub finds : Finds n old new ds
    pub counted : now ≡ with_datagrams before ds
    pub here : P ds
