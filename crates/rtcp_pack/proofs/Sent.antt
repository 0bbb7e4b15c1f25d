-- What is sent is taken: a sender report, a source description and a goodbye, one behind the other.
use Rattle.std.proofs.Common.{◌≡◌, ◌<◌, ◌≤◌, ◌+◌, ◌-◌, ◌*◌, ◌/◌, ◌%◌, ◌^◌, ◌++◌, ℕ, zero, suc, List, [], ◌∷◌, length, take, drop, Some, Bool, true, false, refl, sym, ap, ◌∙◌, arith}
use Rattle.std.specs.Prelude.{Ok, codes, decimal, nat_lt, replicate, if◌then◌else◌}
use Rattle.std.specs.Option.{option_map}
use Rattle.std.proofs.lemmas.Bool.{le-ltb}
use Rattle.std.proofs.lemmas.Fmt.{length-decimal-le}
use Rattle.std.proofs.lemmas.List.{drop_at, length-append, length-replicate, take_at, take-replicate}
use Rattle.byteorder.specs.Endian.{big_bytes, big_number}
use Rattle.byteorder.specs.Numbers.{big_number-reads_back}
use Rattle.rtcp_pack.specs.declared.report.Report.{Report}
use Rattle.rtcp_pack.specs.Chunks.{chunk_len, chunks_fit, ended_len}
use Rattle.rtcp_pack.specs.Compound.{compound, counted, packet_at, packets_behind, word_len}
use Rattle.rtcp_pack.specs.Reports.{chunk, description_of, goodbye, name, report_octets, sender_report}
use Rattle.rtcp_pack.proofs.Ends.{ended_behind, item_front}
use Rattle.rtcp_pack.proofs.Compounds.{first_taken, packet_next, packets_end}

-- so many zero octets
abbrev zeros : ℕ → List ℕ
zeros count = replicate count 0

-- how many of them fill a chunk
abbrev fill_of : List ℕ → ℕ
fill_of text = 4 - (2 + length text) % 4

pub length-chunk : (ssrc : ℕ) (text : List ℕ) → length (chunk ssrc text) ≡ 6 + length text + fill_of text
length-chunk ssrc text =
    length-append (big_bytes 4 ssrc ++ 1 ∷ length text ∷ text) (zeros (fill_of text))
    ∙ omega (arith, length-replicate {A = ℕ} (fill_of text) 0)

-- the octets that are put together are a source description
pub described : (ssrc words fill : ℕ) (text : List ℕ) → fill ≡ 4 - (2 + length text) % 4 → words ≡ (6 + length text + fill) / 4
    → (129 ∷ 202 ∷ [] ++ big_bytes 2 words ++ big_bytes 4 ssrc ++ 1 ∷ length text ∷ []) ++ text ++ take fill (zeros 4) ≡ description_of ssrc text
described ssrc words fill text is told =
    let size : words ≡ length (chunk ssrc text) / 4 = omega (arith, length-chunk ssrc text) in
    let filled : take fill (zeros 4) ≡ zeros fill = take-replicate {X = ℕ} fill 4 0 (omega arith) in
    rw (filled, size, is) refl

-- a zero octet ends the items
ended_zero : (fill : ℕ) → 0 < fill → ended_len 0 (zeros fill) ≡ Some 1
unfolding ended_len
ended_zero zero some = absurd (omega arith)
ended_zero (suc fill) some = refl

ended_chunk : (ssrc : ℕ) (text : List ℕ) → ended_len 4 (chunk ssrc text) ≡ Some (7 + length text)
ended_chunk ssrc text =
    let behind : List ℕ = zeros (fill_of text) in
    let one_more : 1 + length text ≡ suc (length text) = omega arith in
    let left : drop (1 + length text) (length text ∷ (text ++ behind)) ≡ behind =
    ap (λ (k : ℕ). drop k (length text ∷ (text ++ behind))) one_more ∙ drop_at text behind (length text) refl in
    let item : ended_len 0 (1 ∷ length text ∷ (text ++ behind)) ≡ Some (2 + length text + 1) =
    item_front 1 (length text) (length text ∷ (text ++ behind)) (λ (e : 1 ≡ 0). absurd (omega arith)) refl
    ∙ ap (λ (l : List ℕ). option_map (λ (len : ℕ). 2 + length text + len) (ended_len 0 l)) left
    ∙ ap (option_map (λ (len : ℕ). 2 + length text + len)) (ended_zero (fill_of text) (omega arith)) in
    ended_behind 4 (chunk ssrc text)
    ∙ ap (option_map (λ (len : ℕ). 4 + len)) item
    ∙ ap Some (omega arith)

chunk_len-chunk : (ssrc : ℕ) (text : List ℕ) → chunk_len (chunk ssrc text) ≡ Some (length (chunk ssrc text))
unfolding chunk_len
chunk_len-chunk ssrc text =
    ap (option_map (λ (len : ℕ). 4 * ((len + 3) / 4))) (ended_chunk ssrc text)
    ∙ ap Some (omega (arith, length-chunk ssrc text))

chunk_fits : (ssrc : ℕ) (text : List ℕ) → chunks_fit 1 (chunk ssrc text) ≡ true
unfolding chunks_fit
chunk_fits ssrc text = rw (chunk_len-chunk ssrc text) refl

-- each packet is one
sender_report_at : (report : Report) (rest : List ℕ) → packet_at true (sender_report report ++ rest) ≡ Ok 28
unfolding packet_at
sender_report_at report rest =
    let head : nat_lt (length (sender_report report ++ rest)) 4 ≡ false = le-ltb _ _ (omega arith) in
    let whole : nat_lt (length (sender_report report ++ rest)) 28 ≡ false = le-ltb _ _ (omega arith) in
    rw (head, whole) refl

goodbye_at : (ssrc : ℕ) → packet_at false (goodbye ssrc) ≡ Ok 8
unfolding packet_at
goodbye_at ssrc = refl

description_at : (ssrc : ℕ) (text rest : List ℕ) → length text ≤ 18 → packet_at false (description_of ssrc text ++ rest) ≡ Ok (length (description_of ssrc text))
unfolding packet_at
description_at ssrc text rest short =
    let bytes : List ℕ = description_of ssrc text ++ rest in
    let size = length-chunk ssrc text in
    let words : big_number 2 (drop 2 bytes) ≡ length (chunk ssrc text) / 4 = big_number-reads_back 2 (length (chunk ssrc text) / 4) (chunk ssrc text ++ rest) (omega arith) in
    let len : word_len bytes ≡ 4 + length (chunk ssrc text) = omega arith in
    let all : length bytes ≡ 4 + length (chunk ssrc text) + length rest = length-append (description_of ssrc text) rest ∙ omega arith in
    let head : nat_lt (length bytes) 4 ≡ false = le-ltb _ _ (omega arith) in
    let whole : nat_lt (length bytes) (word_len bytes) ≡ false = le-ltb _ _ (omega arith) in
    let body : take (word_len bytes - 0 - 4) (chunk ssrc text ++ rest) ≡ chunk ssrc text = take_at (chunk ssrc text) rest (word_len bytes - 0 - 4) (omega arith) in
    let told : word_len bytes ≡ length (description_of ssrc text) = omega arith in
    rw (head, whole, body, chunk_fits ssrc text) (ap Ok told)

-- a report with any name that is short enough
named_taken : (report : Report) (text : List ℕ) (bye : Bool) → length text ≤ 18
    → compound (sender_report report ++ description_of report.ssrc text ++ (if bye then goodbye report.ssrc else [])) ≡ Ok (if bye then 3 else 2)
named_taken report text bye short =
    let last : List ℕ = if bye then goodbye report.ssrc else [] in
    let description : List ℕ = description_of report.ssrc text in
    sym (first_taken 28 (sender_report report ++ (description ++ last)) (sender_report_at report (description ++ last)))
    ∙ packet_next 1 (length description) 2 (description ++ last) (omega arith) (omega arith) refl (description_at report.ssrc text last short)
    ∙ ap (λ (l : List ℕ). counted 2 (packets_behind 0 l)) (drop_at description last (length description) refl)
    ∙ ends bye
  where
    ends : (bye : Bool) → counted 2 (packets_behind 0 (if bye then goodbye report.ssrc else [])) ≡ Ok (if bye then 3 else 2)
    ends true = packet_next 2 8 3 (goodbye report.ssrc) (omega arith) (omega arith) refl (goodbye_at report.ssrc) ∙ packets_end 3 [] refl
    ends false = packets_end 2 [] refl

-- a name of a number of 32 bits
pub name_short : (member : ℕ) → member < 2 ^ 32 → length (name member) ≤ 18
unfolding name
name_short member fits =
    let digits : length (decimal member) ≤ 10 = length-decimal-le 10 member (omega arith) (omega arith) (omega arith) in
    omega (arith, length-append (decimal member) (codes "@bridge"))

-- a report is taken whole
pub report_taken : (octets : List ℕ) (report : Report) → octets ≡ report_octets report → report.member < 2 ^ 32
    → compound octets ≡ Ok (if report.bye then 3 else 2)
unfolding report_octets
report_taken octets report is fits = rw is (named_taken report (name report.member) report.bye (name_short report.member fits))
