-- Reading and writing undo one another.
use Rattle.std.proofs.Common.{◌≡◌, ℕ, zero, suc, ◌+◌, ◌/◌, ◌%◌, ◌<◌, ◌≤◌, true, false, List, [], ◌∷◌, ◌++◌, length, get_or, drop, Ok, sym, refl, ap, ◌∙◌, subst, append_assoc, add-zero, zero-add, arith, length-append}
use Rattle.std.specs.List.{flat_map}
use Rattle.std.proofs.lemmas.List.{append-nil, get_or_at, get_or_append_left}
use Rattle.store.specs.Pairs.{Pair, nothing, Lawful}
use Rattle.store.specs.Paths.{lawful_path}
use Rattle.bundle.specs.Layout.{head, in_two, record_of, written, extent, pair_of, met, reading, Headed, headed, count_of, checked}
use Rattle.bundle.specs.Laws.{Bytes, Bundles, ReadsWritten, OneWriting, Shortest}
use Rattle.bundle.proofs.Numbers.{in_two_back}
use Rattle.bundle.proofs.Known.{met_none}
use Rattle.bundle.proofs.Steps.{reading_on, reading_all}
use Rattle.bundle.proofs.Sound.{Sound, sound_none, reading_first, reading_last, reading_sound}
use Rattle.bundle.proofs.Front.{headed_there, headed_true, headed_count, checked_records}
use Rattle.bundle.proofs.Opened.{accepted, accepted_count}
use Rattle.bundle.proofs.Writing.{bytes_drop, pair_back, extent_back, drop_back, fault_back, writes_back}

-- A pair among lawful ones is lawful, and its path is not met before.
module _ (ps : List Pair) (q : Pair) (xs : List Pair) (s : Sound (ps ++ q ∷ xs)) where
  here : get_or (ps ++ q ∷ xs) (length ps) nothing ≡ q
  here = get_or_at ps q xs nothing (length ps) refl

  inside : length ps < length (ps ++ q ∷ xs)
  inside = rw (length-append ps (q ∷ xs)) (omega arith)

  pub its_path : lawful_path q.path ≡ true
  its_path = subst (λ (v : Pair). lawful_path v.path ≡ true) here (s.named (length ps) inside)

  pub its_body : length q.body ≤ 1048576
  its_body = subst (λ (v : Pair). length v.body ≤ 1048576) here (s.small (length ps))

  pub its_new : met ps q.path ≡ false
  its_new = met_none ps q.path (λ k h e.
      s.apart k (length ps) (h, inside)
      (ap (λ (v : Pair). v.path) (get_or_append_left ps (q ∷ xs) nothing k h) ∙ e ∙ sym (ap (λ (v : Pair). v.path) here)))

-- over the records of lawful pairs the reading goes on
pub reads_on : (xs ps : List Pair) (m : ℕ) (t : List ℕ) (p : ℕ) → Sound (ps ++ xs)
    → reading (length xs + m) ps (flat_map record_of xs ++ t) p ≡ reading m (ps ++ xs) t (p + length (flat_map record_of xs))
reads_on [] ps m t p s = rw (zero-add m, append-nil ps, add-zero p)
reads_on (q ∷ xs) ps m t p s =
    let rs = flat_map record_of xs in
    let none = fault_back q (rs ++ t) ps (its_path ps q xs s) (its_new ps q xs s) (its_body ps q xs s) in
    let more : suc (length xs) + m ≡ suc (length xs + m) = omega arith in
    let s' = subst Sound (sym (append_assoc ps (q ∷ []) xs)) s in
    let sum : (p + length (record_of q)) + length rs ≡ p + length (record_of q ++ rs) = omega (arith, length-append (record_of q) rs) in
    ap (λ (k : ℕ). reading k ps ((record_of q ++ rs) ++ t) p) more
    ∙ ap (λ (r : List ℕ). reading (suc (length xs + m)) ps r p) (append_assoc (record_of q) rs t)
    ∙ reading_on (length xs + m) ps (record_of q ++ (rs ++ t)) p none
    ∙ rw (pair_back q (rs ++ t), drop_back q (rs ++ t), extent_back q (rs ++ t))
    (reads_on xs (ps ++ q ∷ []) m t (p + length (record_of q)) s'
    ∙ rw (append_assoc ps (q ∷ []) xs, sum))

pub reads_all : (ps : List Pair) (p : ℕ) → Sound ps → reading (length ps) [] (flat_map record_of ps) p ≡ Ok ps
reads_all ps p s =
    let rs = flat_map record_of ps in
    ap (λ (n : ℕ). reading n [] rs p) (sym (add-zero (length ps)))
    ∙ ap (λ (r : List ℕ). reading (length ps + 0) [] r p) (sym (append-nil rs))
    ∙ reads_on ps [] 0 [] p s
    ∙ reading_all ps [] (p + length rs) refl

pub lawful_sound : (ps : List Pair) → Lawful ps → Sound ps
lawful_sound ps w = record { named = w.named; small = w.small; apart = w.apart }

-- The head and the count of a writing.
pub written_headed : (ps : List Pair) → Headed (written ps) (length ps)
unfolding written
written_headed ps =
    let n = length ps in
    record { high = n / 256; low = n % 256; rest = flat_map record_of ps; is = refl; counts = omega arith }

pub written_count : (ps : List Pair) → count_of (written ps) ≡ length ps
written_count ps = sym (headed_count (written ps) (length ps) (written_headed ps))

pub written_rest : (ps : List Pair) → drop 7 (written ps) ≡ flat_map record_of ps
unfolding written
written_rest ps = refl

pub reads_written : (ps : List Pair) → Lawful ps → reading (count_of (written ps)) [] (drop 7 (written ps)) 7 ≡ Ok ps
reads_written ps w =
    ap (λ (n : ℕ). reading n [] (drop 7 (written ps)) 7) (written_count ps)
    ∙ ap (λ (r : List ℕ). reading (length ps) [] r 7) (written_rest ps)
    ∙ reads_all ps 7 (lawful_sound ps w)

-- The records of a reading that ends well are written.
pub reading_written : (n : ℕ) (ps : List Pair) (r : List ℕ) (p : ℕ) (qs : List Pair) → reading n ps r p ≡ Ok qs → Bytes r
    → (xs : List Pair) × (qs ≡ ps ++ xs) × (r ≡ flat_map record_of xs)
reading_written zero ps r p qs e b =
    let l = reading_last ps r p qs e in
    ([], sym l.1 ∙ sym (append-nil ps), l.0)
reading_written (suc n) ps r p qs e b =
    let f = reading_first n ps r p qs e in
    let w = reading_written n (ps ++ pair_of r ∷ []) (drop (extent r) r) (p + extent r) qs f.1 (bytes_drop r (extent r) b) in (
      pair_of r ∷ w.0,
      w.1 ∙ append_assoc ps (pair_of r ∷ []) w.0,
      writes_back r b ps f.0 ∙ ap (λ (v : List ℕ). record_of (pair_of r) ++ v) w.2,
    )

-- the head and the count, put together again
pub front_back : (bs : List ℕ) (n : ℕ) → Headed bs n → Bytes bs → bs ≡ head ++ (in_two n ++ drop 7 bs)
front_back bs n w b =
    let low_byte : w.low < 256 = omega (arith, ap (λ (v : List ℕ). get_or v 6 0) w.is, b 6) in
    let count : in_two n ≡ w.high ∷ w.low ∷ [] = ap in_two w.counts ∙ in_two_back w.high w.low [] low_byte in
    let after : drop 7 bs ≡ w.rest = ap (drop 7) w.is in
    w.is
    ∙ sym (ap (λ (v : List ℕ). head ++ (v ++ drop 7 bs)) count ∙ ap (λ (v : List ℕ). head ++ (w.high ∷ w.low ∷ v)) after)

pub read_bundle : (bs : List ℕ) (ps : List Pair) → Bytes bs → checked bs ≡ Ok ps → Bundles bs ps
unfolding written
read_bundle bs ps b e =
    let a = accepted bs ps e in
    let w = reading_written (count_of bs) [] (drop 7 bs) 7 ps a.read (bytes_drop bs 7 b) in
    let s = reading_sound (count_of bs) [] (drop 7 bs) 7 ps a.read sound_none in
    record {
      short = a.short;
      lawful = record { few = omega (arith, a.few, accepted_count bs ps a); named = s.named; small = s.small; apart = s.apart };
      is = front_back bs (count_of bs) (headed_there bs a.front) b
          ∙ ap (λ (n : ℕ). head ++ (in_two n ++ drop 7 bs)) (sym (accepted_count bs ps a))
          ∙ ap (λ (v : List ℕ). head ++ (in_two (length ps) ++ v)) (w.2 ∙ ap (flat_map record_of) (sym w.1));
    }

pub bundle_read : (bs : List ℕ) (ps : List Pair) → Bundles bs ps → checked bs ≡ Ok ps
bundle_read bs ps k =
    let v = written ps in
    let short : length v ≤ 16777216 = omega (arith, ap length k.is, k.short) in
    ap checked k.is
    ∙ checked_records v short (headed_true v (length ps) (written_headed ps)) (omega (arith, written_count ps, k.lawful.few))
    ∙ reads_written ps k.lawful

-- The laws.
pub reads_written_law : ReadsWritten
reads_written_law bs ps b = (read_bundle bs ps b, bundle_read bs ps)

pub one_writing : OneWriting
one_writing ps qs w v e =
    let same = sym (reads_written ps w) ∙ ap (λ (bs : List ℕ). reading (count_of bs) [] (drop 7 bs) 7) e ∙ reads_written qs v in
    cc

pub shortest : Shortest
unfolding checked headed reading
shortest = refl
