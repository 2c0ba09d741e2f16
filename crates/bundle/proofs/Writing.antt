-- A written record is read back, and a record that breaks no rule is written.
use Rattle.std.proofs.Common.{◌≡◌, ℕ, ◌+◌, ◌<◌, ◌≤◌, true, false, List, [], ◌∷◌, ◌++◌, length, take, drop, None, sym, refl, ap, ◌∙◌, append_assoc, one-add, arith, length-append, length-drop, take-append-drop}
use Rattle.std.proofs.lemmas.List.{get_or-drop, take_at, drop_at, drop-drop, length-take-le}
use Rattle.store.specs.Pairs.{Pair}
use Rattle.store.specs.Paths.{lawful_path}
use Rattle.bundle.specs.Layout.{record_of, in_four, four, path_size, path_of, behind_path, body_size, body_of, extent, pair_of, met, fault}
use Rattle.bundle.specs.Laws.{Bytes}
use Rattle.bundle.proofs.Numbers.{four_back, in_four_back}
use Rattle.bundle.proofs.Parts.{length_behind, path_fine, body_fine, fault_body, path_none, body_none, fault_none}

-- The record of q, with the bytes t behind it.
module _ (q : Pair) (t : List ℕ) where
  pub size_back : path_size (record_of q ++ t) ≡ length q.path
  unfolding record_of
  size_back = refl

  -- behind the length byte
  rest : List ℕ
  rest = q.path ++ (in_four (length q.body) ++ (q.body ++ t))

  as_rest : record_of q ++ t ≡ length q.path ∷ rest
  unfolding record_of rest
  as_rest = simp append_assoc

  pub path_back : path_of (record_of q ++ t) ≡ q.path
  unfolding path_of rest
  path_back = rw as_rest (take_at q.path (in_four (length q.body) ++ (q.body ++ t)) (length q.path) refl)

  pub behind_back : behind_path (record_of q ++ t) ≡ in_four (length q.body) ++ (q.body ++ t)
  unfolding behind_path rest
  behind_back = rw (as_rest, one-add (length q.path)) (drop_at q.path (in_four (length q.body) ++ (q.body ++ t)) (length q.path) refl)

  pub body_size_back : body_size (record_of q ++ t) ≡ length q.body
  unfolding body_size
  body_size_back = ap four behind_back ∙ four_back (length q.body) (q.body ++ t)

  pub body_back : body_of (record_of q ++ t) ≡ q.body
  unfolding body_of
  body_back = rw (body_size_back, behind_back) (take_at q.body t (length q.body) refl)

  pub pair_back : pair_of (record_of q ++ t) ≡ q
  pair_back = rw (path_back, body_back)

  pub extent_back : extent (record_of q ++ t) ≡ length (record_of q)
  unfolding extent record_of
  extent_back = omega (arith, body_size_back, length-append q.path (in_four (length q.body) ++ q.body))

  pub drop_back : drop (extent (record_of q ++ t)) (record_of q ++ t) ≡ t
  drop_back = drop_at (record_of q) t (extent (record_of q ++ t)) (sym extent_back)

  long : length (record_of q ++ t) ≡ 5 + length q.path + length q.body + length t
  unfolding rest
  long = ap length as_rest ∙ simp length-append (omega arith)

  -- a written lawful pair breaks no rule
  pub fault_back : (ps : List Pair) → lawful_path q.path ≡ true → met ps q.path ≡ false → length q.body ≤ 1048576 → fault ps (record_of q ++ t) ≡ None
  unfolding extent
  fault_back ps named new small =
      let r = record_of q ++ t in
      let fine = path_fine r (omega (arith, size_back, long)) (ap lawful_path path_back ∙ named) in
      fault_body ps r fine (ap (met ps) path_back ∙ new)
      ∙ body_fine r (omega (arith, size_back, long, length_behind r)) (omega (arith, body_size_back)) (omega (arith, size_back, body_size_back, long))

-- Bytes from a place on are bytes.
pub bytes_drop : (bs : List ℕ) (n : ℕ) → Bytes bs → Bytes (drop n bs)
bytes_drop bs n h k = rw (get_or-drop n bs k 0) (h (n + k))

-- A record that breaks no rule, put together again.
first_byte : (r : List ℕ) → 0 < length r → r ≡ path_size r ∷ drop 1 r
first_byte [] h = absurd (omega arith)
first_byte (b ∷ r) h = refl

four_bytes : (t : List ℕ) → 4 ≤ length t → Bytes t → t ≡ in_four (four t) ++ drop 4 t
four_bytes [] h b = absurd (omega arith)
four_bytes (_ ∷ []) h b = absurd (omega arith)
four_bytes (_ ∷ _ ∷ []) h b = absurd (omega arith)
four_bytes (_ ∷ _ ∷ _ ∷ []) h b = absurd (omega arith)
four_bytes (a ∷ b ∷ c ∷ d ∷ t) h s = ap (λ (f : List ℕ). f ++ t) (sym (in_four_back a b c d t (s 1) (s 2) (s 3)))

module _ (r : List ℕ) (s : Bytes r) where
  -- the path and what follows, where the path is whole
  pub path_split : 1 + path_size r ≤ length r → r ≡ length (path_of r) ∷ (path_of r ++ behind_path r)
  unfolding path_of behind_path
  path_split h =
      let x = path_size r in
      let whole : length (take x (drop 1 r)) ≡ x = length-take-le x (drop 1 r) (rw (length-drop 1 r) (omega arith)) in
      let tail : drop x (drop 1 r) ≡ drop (1 + x) r = drop-drop x 1 r in
      first_byte r (omega arith)
      ∙ ap (λ (v : List ℕ). x ∷ v) (sym (take-append-drop x (drop 1 r)) ∙ ap (λ (v : List ℕ). take x (drop 1 r) ++ v) tail)
      ∙ ap (λ (n : ℕ). n ∷ (take x (drop 1 r) ++ drop (1 + x) r)) (sym whole)

  -- the body's length and what follows, where it is whole
  pub size_split : 4 ≤ length (behind_path r) → behind_path r ≡ in_four (body_size r) ++ drop 4 (behind_path r)
  unfolding body_size behind_path
  size_split h = four_bytes (drop (1 + path_size r) r) h (bytes_drop r (1 + path_size r) s)

  -- the body and what follows the record, where the record is whole
  pub body_split : extent r ≤ length r → drop 4 (behind_path r) ≡ body_of r ++ drop (extent r) r
  unfolding body_of behind_path extent
  body_split h =
      let x = path_size r in
      let n = body_size r in
      let t = drop (1 + x) r in
      let sum : (1 + x) + (4 + n) ≡ 5 + x + n = omega arith in
      sym (take-append-drop n (drop 4 t))
      ∙ ap (λ (v : List ℕ). take n (drop 4 t) ++ v) (drop-drop n 4 t ∙ drop-drop (4 + n) (1 + x) r ∙ ap (λ (k : ℕ). drop k r) sum)

  pub body_whole : extent r ≤ length r → length (body_of r) ≡ body_size r
  unfolding body_of extent
  body_whole h = length-take-le (body_size r) (drop 4 (behind_path r)) (rw (length-drop 4 (behind_path r)) (omega (arith, length_behind r)))

  pub writes_back : (ps : List Pair) → fault ps r ≡ None → r ≡ record_of (pair_of r) ++ drop (extent r) r
  unfolding rest
  writes_back ps e =
      let f = fault_none ps r e in
      let b = body_none r f.2 in
      path_split (path_none r f.0).0
      ∙ ap (λ (v : List ℕ). length (path_of r) ∷ (path_of r ++ v))
      (size_split b.0
      ∙ ap (λ (v : List ℕ). in_four (body_size r) ++ v) (body_split b.2)
      ∙ ap (λ (n : ℕ). in_four n ++ (body_of r ++ drop (extent r) r)) (sym (body_whole b.2)))
      ∙ sym (as_rest (pair_of r) (drop (extent r) r))
