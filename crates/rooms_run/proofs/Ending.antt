-- How a call ends: what follows of each status, and what is said of the rooms of a told list.
use Rattle.std.proofs.Common.{◌≡◌, ◌≢◌, ℕ, ◌<◌, ◌≤◌, ◌⊎◌, ⊎_elim, inl, inr, List, [], ◌∷◌, length, get_or, take, map, All, Option, Some, None, Result, Ok, Err, append-nil, refl, sym, ap, ◌∙◌, subst, arith}
use Rattle.std.specs.Prelude.{IfOk, IfErr, IsOk, IsErrOf, OnOk, OnErr}
use Rattle.std.specs.List.{AllZip}
use Rattle.std.proofs.lemmas.Bool.{false≢true}
use Rattle.std.proofs.Math.Seq.{take-length}
use Rattle.edge_io.specs.File.{File, untold, missing, content}
use Rattle.edge_io.specs.Told.{Grows, GrowsByFront}
use Rattle.desk_run.specs.Whole.{Given}
use Rattle.program_edge.specs.Report.{Tells, TellsAfter}
use Rattle.session_edge.specs.Given.{IfContent, IfRoster as IfFile}
use Rattle.room_pool.specs.Listed.{room_list}
use Rattle.room_pool.specs.Named.{Named}
use Rattle.rooms_run.specs.declared.closing.Outcome.{Outcome}
use Rattle.rooms_run.specs.declared.ends.RoomEnd.{RoomEnd}
use Rattle.rooms_run.specs.declared.start.Start.{Start}
use Rattle.rooms_run.specs.declared.status.RoomsStatus.{RoomsStatus}
use Rattle.rooms_run.specs.declared.status.RoomsStatus.TheVariants.{Done, Usage, ListFault, ListLong, ReadFault, WriteFault, Memory}
use Rattle.rooms_run.specs.Causes.{IsOutputEnd, IsUnlessMemory, OnListFault}
use Rattle.rooms_run.specs.Ends.{given_to, end_of, text_of}
use Rattle.rooms_run.specs.Outcomes.{Comes, CameFor}
use Rattle.rooms_run.specs.Reported.{AreEnds, Reported}
use Rattle.rooms_run.specs.Starting.{start_gives, IfRoom, IfListed, IsGoodList, IsBadAt, IsLongList}
use Rattle.rooms_run.specs.Texts.{line_of, rooms_text}
use Rattle.rooms_run.proofs.Zips.{zip_along, zip_map, zip_two, zip_weaken}

-- ---- what is told ----

pub content-with : (f : File) (P Q : List ℕ → Type 0) → ((text : List ℕ) → P text → Q text) → IfContent f P → IfContent f Q
content-with untold P Q go h = tt
content-with missing P Q go h = tt
content-with (content text) P Q go h = go text h

pub file-with : (name : Option (List ℕ)) (file : List ℕ → File) (P Q : List ℕ → Type 0) → ((text : List ℕ) → P text → Q text) → IfFile name file P → IfFile name file Q
file-with None file P Q go h = tt
file-with (Some n) file P Q go h = content-with (file n) P Q go h

all-content : (f : File) (P : List ℕ → Type 0) → ((text : List ℕ) → P text) → IfContent f P
all-content untold P go = tt
all-content missing P go = tt
all-content (content text) P go = go text

pub all-files : (name : Option (List ℕ)) (file : List ℕ → File) (P : List ℕ → Type 0) → ((text : List ℕ) → P text) → IfFile name file P
all-files None file P go = tt
all-files (Some n) file P go = all-content (file n) P go

pub no-file : (name : Option (List ℕ)) (file : List ℕ → File) (P : List ℕ → Type 0) → name ≡ None → IfFile name file P
no-file name file P none = subst (λ (o : Option (List ℕ)). IfFile o file P) (sym none) tt

pub room-with : (file : List ℕ → File) (n : Named) (P Q : List ℕ → List ℕ → Type 0) → ((text bytes : List ℕ) → P text bytes → Q text bytes) → IfRoom file n P → IfRoom file n Q
room-with file n P Q go h =
    content-with (file n.roster) (λ text. IfContent (file n.dump) (λ bytes. P text bytes)) (λ text. IfContent (file n.dump) (λ bytes. Q text bytes))
    (λ text. content-with (file n.dump) (λ bytes. P text bytes) (λ bytes. Q text bytes) (λ bytes. go text bytes)) h

pub all-rooms : (file : List ℕ → File) (n : Named) (P : List ℕ → List ℕ → Type 0) → ((text bytes : List ℕ) → P text bytes) → IfRoom file n P
all-rooms file n P go =
    all-content (file n.roster) (λ text. IfContent (file n.dump) (λ bytes. P text bytes)) (λ text. all-content (file n.dump) (λ bytes. P text bytes) (λ bytes. go text bytes))

-- a shelf that tells the same tells the same of a room
pub room-moved : (file told : List ℕ → File) → ((other : List ℕ) → file other ≡ told other) → (n : Named) (P : List ℕ → List ℕ → Type 0) → IfRoom file n P → IfRoom told n P
room-moved file told same n P h =
    subst (λ (f : File). IfContent f (λ text. IfContent (told n.dump) (λ bytes. P text bytes))) (same n.roster)
    (subst (λ (f : File). IfContent (file n.roster) (λ text. IfContent f (λ bytes. P text bytes))) (same n.dump) h)

-- ---- a told list ----

pub on-err : {X E : Type 0} (r : Result X E) (P : Type 0) → P → OnErr r P
on-err (Ok x) P p = tt
on-err (Err e) P p = p

pub err-with : {X E : Type 0} (r : Result X E) (Q : E → Type 0) → ((e : E) → Q e) → IfErr r Q
err-with (Ok x) Q go = tt
err-with (Err e) Q go = go e

pub ok-from : {X E : Type 0} (r : Result X E) (P Q : Type 0) → (P → Q) → OnOk r P → OnOk r Q
ok-from (Ok x) P Q go h = go h
ok-from (Err e) P Q go h = tt

pub err-from : {X E : Type 0} (r : Result X E) (P Q : Type 0) → (P → Q) → OnErr r P → OnErr r Q
err-from (Ok x) P Q go h = tt
err-from (Err e) P Q go h = go h

if-ok : {X E : Type 0} (r : Result X E) (x : X) (P : X → Type 0) → r ≡ Ok x → P x → IfOk r P
if-ok r x P is p = subst (λ (q : Result _ _). IfOk q P) (sym is) p

ok-with : {X E : Type 0} (r : Result X E) (P Q : X → Type 0) → ((x : X) → P x → Q x) → IfOk r P → IfOk r Q
ok-with (Ok x) P Q go h = go x h
ok-with (Err e) P Q go h = tt

all-ok : {X E : Type 0} (r : Result X E) (P : X → Type 0) → ((x : X) → P x) → IfOk r P
all-ok (Ok x) P go = go x
all-ok (Err e) P go = tt

none-ok : {X E : Type 0} (r : Result X E) (e : E) (P : X → Type 0) → r ≡ Err e → IfOk r P
none-ok r e P is = subst (λ (q : Result _ _). IfOk q P) (sym is) tt

none-err : {X E : Type 0} (r : Result X E) (Q : E → Type 0) → IsOk r → IfErr r Q
none-err (Ok x) Q is = tt
none-err (Err e) Q is = absurd (false≢true is)

all-err : {X E : Type 0} (r : Result X E) (Q : E → Type 0) → ((e : E) → Q e) → IfErr r Q
all-err (Ok x) Q go = tt
all-err (Err e) Q go = go e

if-err : {X E : Type 0} (r : Result X E) (e : E) (Q : E → Type 0) → r ≡ Err e → Q e → IfErr r Q
if-err r e Q is q = subst (λ (p : Result _ _). IfErr p Q) (sym is) q

is-ok : {X E : Type 0} (r : Result X E) (x : X) → r ≡ Ok x → IsOk r
is-ok r x is = rw is refl

module _ (name : Option (List ℕ)) (file : List ℕ → File) where
  pub listed-with : (P Q : List Named → Type 0) → ((list : List Named) → P list → Q list) → IfListed name file P → IfListed name file Q
  listed-with P Q go h =
      file-with name file (λ text. length text ≤ 65536 → IfOk (room_list text) P) (λ text. length text ≤ 65536 → IfOk (room_list text) Q)
      (λ text f short. ok-with (room_list text) P Q go (f short)) h

  pub all-listed : (P : List Named → Type 0) → ((list : List Named) → P list) → IfListed name file P
  all-listed P go = all-files name file (λ text. length text ≤ 65536 → IfOk (room_list text) P) (λ text short. all-ok (room_list text) P go)

  -- the list that was read
  pub listed-here : (list : List Named) (P : List Named → Type 0) → IfFile name file (λ text. (length text ≤ 65536) × (room_list text ≡ Ok list)) → P list → IfListed name file P
  listed-here list P read p =
      file-with name file (λ text. (length text ≤ 65536) × (room_list text ≡ Ok list)) (λ text. length text ≤ 65536 → IfOk (room_list text) P)
      (λ text h short. if-ok (room_list text) list P h.1 p) read

  pub good-list : (list : List Named) → IfFile name file (λ text. (length text ≤ 65536) × (room_list text ≡ Ok list)) → IsGoodList name file
  good-list list read =
      file-with name file (λ text. (length text ≤ 65536) × (room_list text ≡ Ok list)) (λ text. (length text ≤ 65536) × IsOk (room_list text))
      (λ text h. (h.0, is-ok (room_list text) list h.1)) read

  long-none : (P : List Named → Type 0) → IsLongList name file → IfListed name file P
  long-none P long =
      file-with name file (λ text. 65536 < length text) (λ text. length text ≤ 65536 → IfOk (room_list text) P) (λ text lt short. absurd (omega arith)) long

  bad-none : (line : ℕ) (P : List Named → Type 0) → IsBadAt name file line → IfListed name file P
  bad-none line P bad =
      file-with name file (λ text. (length text ≤ 65536) × (room_list text ≡ Err line)) (λ text. length text ≤ 65536 → IfOk (room_list text) P)
      (λ text h short. none-ok (room_list text) line P h.1) bad

  -- what is known of a call by its status
  pub record Caused (r : RoomsStatus) (F W : Type 0) : Type 0 where
    pub usage : r ≡ Usage → name ≡ None
    pub long : r ≡ ListLong → IsLongList name file
    pub fault : OnListFault r (λ line. IsBadAt name file line)
    pub good : (r ≡ Done) ⊎ (r ≡ WriteFault) → IsGoodList name file
    pub read : r ≡ ReadFault → F
    pub write : r ≡ WriteFault → W

  -- all was run
  pub caused-ok : (r : RoomsStatus) (F W : Type 0) → IsGoodList name file → IsOutputEnd r → (r ≡ WriteFault → W) → Caused r F W
  caused-ok Done F W good end write = record { usage = λ q. absurd (cc); long = λ q. absurd (cc); fault = tt; good = λ w. good; read = λ q. absurd (cc); write = write }
  caused-ok WriteFault F W good end write = record { usage = λ q. absurd (cc); long = λ q. absurd (cc); fault = tt; good = λ w. good; read = λ q. absurd (cc); write = write }
  caused-ok Memory F W good end write = record { usage = λ q. absurd (cc); long = λ q. absurd (cc); fault = tt; good = λ w. good; read = λ q. absurd (cc); write = write }
  caused-ok Usage F W good end write = absurd end
  caused-ok (ListFault line) F W good end write = absurd end
  caused-ok ListLong F W good end write = absurd end
  caused-ok ReadFault F W good end write = absurd end

  -- the steps were cut short
  pub caused-err : (r e : RoomsStatus) (F W : Type 0) → r ≡ e → e ≢ Done → (e ≡ Usage → name ≡ None) → (e ≡ ListLong → IsLongList name file)
      → OnListFault e (λ line. IsBadAt name file line) → (e ≡ WriteFault → IsGoodList name file) → (e ≡ ReadFault → F) → (e ≡ WriteFault → W) → Caused r F W
  caused-err r e F W same not usage long fault good read write =
      subst (λ (x : RoomsStatus). Caused x F W) (sym same)
      (record { usage = usage; long = long; fault = fault; good = λ w. ⊎_elim (λ q. absurd (not q)) good w; read = read; write = write })

  pub complete-ends : (r : RoomsStatus) (F W : Type 0) → Caused r F W → IfListed name file (λ list. IsUnlessMemory r Done ⊎ F ⊎ W)
  complete-ends Done F W c = all-listed (λ list. IsUnlessMemory Done Done ⊎ F ⊎ W) (λ list. inl (inl refl))
  complete-ends Usage F W c = no-file name file (λ text. length text ≤ 65536 → IfOk (room_list text) (λ list. IsUnlessMemory Usage Done ⊎ F ⊎ W)) (c.usage refl)
  complete-ends (ListFault line) F W c = bad-none line (λ list. IsUnlessMemory (ListFault line) Done ⊎ F ⊎ W) c.fault
  complete-ends ListLong F W c = long-none (λ list. IsUnlessMemory ListLong Done ⊎ F ⊎ W) (c.long refl)
  complete-ends ReadFault F W c = all-listed (λ list. IsUnlessMemory ReadFault Done ⊎ F ⊎ W) (λ list. inr (inl (c.read refl)))
  complete-ends WriteFault F W c = all-listed (λ list. IsUnlessMemory WriteFault Done ⊎ F ⊎ W) (λ list. inr (inr (c.write refl)))
  complete-ends Memory F W c = all-listed (λ list. IsUnlessMemory Memory Done ⊎ F ⊎ W) (λ list. inl (inr refl))

  module _ (F W : Type 0) where
    abbrev Long : RoomsStatus → List ℕ → Type 0
    Long r text = 65536 < length text → IsUnlessMemory r ListLong ⊎ F

    good-short : (r : RoomsStatus) → IsGoodList name file → IfFile name file (Long r)
    good-short r good = file-with name file (λ text. (length text ≤ 65536) × IsOk (room_list text)) (Long r) (λ text h lt. absurd (omega (arith, h.0))) good

    pub long-ends : (r : RoomsStatus) → Caused r F W → IfFile name file (λ text. 65536 < length text → IsUnlessMemory r ListLong ⊎ F)
    long-ends Done c = good-short Done (c.good (inl refl))
    long-ends Usage c = no-file name file (Long Usage) (c.usage refl)
    long-ends (ListFault line) c =
        file-with name file (λ text. (length text ≤ 65536) × (room_list text ≡ Err line)) (Long (ListFault line)) (λ text h lt. absurd (omega (arith, h.0))) c.fault
    long-ends ListLong c = all-files name file (Long ListLong) (λ text lt. inl (inl refl))
    long-ends ReadFault c = all-files name file (Long ReadFault) (λ text lt. inr (c.read refl))
    long-ends WriteFault c = good-short WriteFault (c.good (inr refl))
    long-ends Memory c = all-files name file (Long Memory) (λ text lt. inl (inr refl))

    abbrev Bad : RoomsStatus → List ℕ → Type 0
    Bad r text = length text ≤ 65536 → IfErr (room_list text) (λ line. IsUnlessMemory r (ListFault line) ⊎ F)

    good-clean : (r : RoomsStatus) → IsGoodList name file → IfFile name file (Bad r)
    good-clean r good =
        file-with name file (λ text. (length text ≤ 65536) × IsOk (room_list text)) (Bad r)
        (λ text h short. none-err (room_list text) (λ line. IsUnlessMemory r (ListFault line) ⊎ F) h.1) good

    pub fault-ends : (r : RoomsStatus) → Caused r F W
        → IfFile name file (λ text. length text ≤ 65536 → IfErr (room_list text) (λ line. IsUnlessMemory r (ListFault line) ⊎ F))
    fault-ends Done c = good-clean Done (c.good (inl refl))
    fault-ends Usage c = no-file name file (Bad Usage) (c.usage refl)
    fault-ends (ListFault line) c =
        file-with name file (λ text. (length text ≤ 65536) × (room_list text ≡ Err line)) (Bad (ListFault line))
        (λ text h short. if-err (room_list text) line (λ k. IsUnlessMemory (ListFault line) (ListFault k) ⊎ F) h.1 (inl (inl refl))) c.fault
    fault-ends ListLong c =
        file-with name file (λ text. 65536 < length text) (Bad ListLong) (λ text lt short. absurd (omega arith)) (c.long refl)
    fault-ends ReadFault c = all-files name file (Bad ReadFault) (λ text short. all-err (room_list text) (λ line. IsUnlessMemory ReadFault (ListFault line) ⊎ F) (λ line. inr (c.read refl)))
    fault-ends WriteFault c = good-clean WriteFault (c.good (inr refl))
    fault-ends Memory c = all-files name file (Bad Memory) (λ text short. all-err (room_list text) (λ line. IsUnlessMemory Memory (ListFault line) ⊎ F) (λ line. inl (inr refl)))

-- ---- what stands on the error stream ----

pub said-reported : (are : List RoomEnd → Type 0) (old new : Option (List ℕ)) (rose : Type 0) (ends : List RoomEnd) (r : RoomsStatus) → are ends → IsOutputEnd r
    → (r ≡ Done → Grows old new (rooms_text 1 ends)) → (r ≢ Done → TellsAfter old new (rooms_text 1 ends) (line_of r) rose) → (r ≢ Done → rose) → Reported are r old new rose
said-reported are old new rose ends Done is end done cut risen = (ends, is, done refl)
said-reported are old new rose ends WriteFault is end done cut risen = inr (ends, is, cut (λ q. cc), risen (λ q. cc))
said-reported are old new rose ends Memory is end done cut risen = inr (ends, is, cut (λ q. cc), risen (λ q. cc))
said-reported are old new rose ends Usage is end done cut risen = absurd end
said-reported are old new rose ends (ListFault line) is end done cut risen = absurd end
said-reported are old new rose ends ListLong is end done cut risen = absurd end
said-reported are old new rose ends ReadFault is end done cut risen = absurd end

pub told-reported : (are : List RoomEnd → Type 0) (old new : Option (List ℕ)) (rose : Type 0) (r : RoomsStatus) → r ≢ Done → Tells old new (line_of r) rose
    → Reported are r old new rose
told-reported are old new rose Done not tells = absurd (not refl)
told-reported are old new rose Usage not tells = tells
told-reported are old new rose (ListFault line) not tells = tells
told-reported are old new rose ListLong not tells = tells
told-reported are old new rose ReadFault not tells = tells
told-reported are old new rose WriteFault not tells = inl tells
told-reported are old new rose Memory not tells = inl tells

-- ---- the rooms ----

pub front-whole : (old new : Option (List ℕ)) (piece : List ℕ) → Grows old new piece → GrowsByFront old new piece
front-whole None new piece h = h
front-whole (Some held) new piece h = (length piece, rw take-length h)

pub front-none : (out : Option (List ℕ)) (piece : List ℕ) → GrowsByFront out out piece
front-none None piece = refl
front-none (Some held) piece = (0, ap Some (sym (append-nil held)))

module _ (file : List ℕ → File) where
  pub came-for : (list : List Named) (starts : List Start) (os : List Outcome)
      → AllZip (λ (n : Named) (start : Start). IfRoom file n (λ text bytes. start_gives start ≡ given_to text bytes)) list starts
      → AllZip (λ (start : Start) (o : Outcome). Comes (start_gives start) o) starts os → AllZip (CameFor file) list os
  came-for list starts os given come =
      zip_along (λ (n : Named) (start : Start). IfRoom file n (λ text bytes. start_gives start ≡ given_to text bytes)) (λ (start : Start) (o : Outcome). Comes (start_gives start) o) (CameFor file)
      (λ n start o gives comes. room-with file n (λ text bytes. start_gives start ≡ given_to text bytes) (λ text bytes. Comes (given_to text bytes) o)
      (λ text bytes e. subst (λ (g : Result Given RoomEnd). Comes g o) e comes) gives)
      list starts os given come

  pub came-ends : (list : List Named) (os : List Outcome) → AllZip (CameFor file) list os
      → AllZip (λ (n : Named) (end : RoomEnd). IfRoom file n (λ text bytes. end ≡ end_of (given_to text bytes))) list (map (λ (o : Outcome). o.end) os)
  came-ends list os came =
      zip_map (CameFor file) (λ (n : Named) (end : RoomEnd). IfRoom file n (λ text bytes. end ≡ end_of (given_to text bytes))) (λ (o : Outcome). o.end)
      (λ n o c. room-with file n (λ text bytes. Comes (given_to text bytes) o) (λ text bytes. o.end ≡ end_of (given_to text bytes)) (λ text bytes come. come.end_is) c)
      list os came

  -- what was put is what each room came to
  module _ (grows : List ℕ → List ℕ → Type 0) where
    pub came-put : (list : List Named) (os : List Outcome) → AllZip (CameFor file) list os → AllZip (λ (n : Named) (o : Outcome). grows n.out o.out.octets) list os
        → All (λ (n : Named). IfRoom file n (λ text bytes. grows n.out (text_of (given_to text bytes)))) list
    came-put list os came put =
        zip_two (CameFor file) (λ (n : Named) (o : Outcome). grows n.out o.out.octets) (λ (n : Named). IfRoom file n (λ text bytes. grows n.out (text_of (given_to text bytes))))
        (λ n o c p. room-with file n (λ text bytes. Comes (given_to text bytes) o) (λ text bytes. grows n.out (text_of (given_to text bytes)))
        (λ text bytes come. subst (λ (octets : List ℕ). grows n.out octets) come.text_is p) c)
        list os came put

-- a shelf that tells the same gives rooms the same
pub gives-moved : (file told : List ℕ → File) → ((other : List ℕ) → file other ≡ told other) → (list : List Named) (starts : List Start)
    → AllZip (λ (n : Named) (start : Start). IfRoom file n (λ text bytes. start_gives start ≡ given_to text bytes)) list starts
    → AllZip (λ (n : Named) (start : Start). IfRoom told n (λ text bytes. start_gives start ≡ given_to text bytes)) list starts
gives-moved file told same list starts all =
    zip_weaken (λ (n : Named) (start : Start). IfRoom file n (λ text bytes. start_gives start ≡ given_to text bytes))
    (λ (n : Named) (start : Start). IfRoom told n (λ text bytes. start_gives start ≡ given_to text bytes))
    (λ n start h. room-moved file told same n (λ text bytes. start_gives start ≡ given_to text bytes) h) list starts all

-- what is said of each room of a told list
module _ (name : Option (List ℕ)) (file : List ℕ → File) (old new : List ℕ → Option (List ℕ)) where
  pub listed-fronts : IfListed name file (λ list. All (λ (n : Named). IfRoom file n (λ text bytes. Grows (old n.out) (new n.out) (text_of (given_to text bytes)))) list)
      → IfListed name file (λ list. All (λ (n : Named). IfRoom file n (λ text bytes. GrowsByFront (old n.out) (new n.out) (text_of (given_to text bytes)))) list)
  listed-fronts h =
      listed-with name file (λ list. All (λ (n : Named). IfRoom file n (λ text bytes. Grows (old n.out) (new n.out) (text_of (given_to text bytes)))) list)
      (λ list. All (λ (n : Named). IfRoom file n (λ text bytes. GrowsByFront (old n.out) (new n.out) (text_of (given_to text bytes)))) list)
      (λ list all k d within. front (get_or list k d) (all k d within)) h
    where
      front : (n : Named) → IfRoom file n (λ text bytes. Grows (old n.out) (new n.out) (text_of (given_to text bytes)))
          → IfRoom file n (λ text bytes. GrowsByFront (old n.out) (new n.out) (text_of (given_to text bytes)))
      front n r =
          room-with file n (λ text bytes. Grows (old n.out) (new n.out) (text_of (given_to text bytes))) (λ text bytes. GrowsByFront (old n.out) (new n.out) (text_of (given_to text bytes)))
          (λ text bytes grows. front-whole (old n.out) (new n.out) (text_of (given_to text bytes)) grows) r

-- nothing was put
pub listed-none : (name : Option (List ℕ)) (file : List ℕ → File) (held : List ℕ → Option (List ℕ))
    → IfListed name file (λ list. All (λ (n : Named). IfRoom file n (λ text bytes. GrowsByFront (held n.out) (held n.out) (text_of (given_to text bytes)))) list)
listed-none name file held =
    all-listed name file (λ list. All (λ (n : Named). IfRoom file n (λ text bytes. GrowsByFront (held n.out) (held n.out) (text_of (given_to text bytes)))) list)
    (λ list k d within. none (get_or list k d))
  where
    none : (n : Named) → IfRoom file n (λ text bytes. GrowsByFront (held n.out) (held n.out) (text_of (given_to text bytes)))
    none n = all-rooms file n (λ text bytes. GrowsByFront (held n.out) (held n.out) (text_of (given_to text bytes))) (λ text bytes. front-none (held n.out) (text_of (given_to text bytes)))

pub listed-same : (name : Option (List ℕ)) (file : List ℕ → File) (held : List ℕ → Option (List ℕ))
    → IfListed name file (λ list. (name : List ℕ) → All (λ (n : Named). n.out ≢ name) list → held name ≡ held name)
listed-same name file held = all-listed name file (λ list. (name : List ℕ) → All (λ (n : Named). n.out ≢ name) list → held name ≡ held name) (λ list other apart. refl)
