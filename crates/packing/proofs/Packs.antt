-- What packing answers in each case, and that what is packed opens again.
use Rattle.std.proofs.Common.{◌≡◌, ℕ, ◌<◌, ◌≤◌, List, ◌++◌, length, take, drop, Ok, Err, Result, refl, ap, ◌∙◌, ⊎_elim, arith}
use Rattle.std.proofs.lemmas.Bool.{cond-true, cond-false, lt-ltb, le-ltb, cases_lt}
use Rattle.std.proofs.lemmas.List.{take_at}
use Rattle.store.specs.Pairs.{Pair}
use Rattle.bundle.specs.Layout.{written, pairs_in, opened}
use Rattle.bundle.proofs.Back.{bundle_read}
use Rattle.packing.specs.declared.PackRefusal.{PackRefusal}
use Rattle.packing.specs.declared.PackRefusal.TheVariants.{TooLong, TooShort}
use Rattle.packing.specs.Packing.{packed, OpensAgain, OpensPacked}

-- the answer, and the buffer
abbrev pub Packed : Type 0
Packed = Result ℕ PackRefusal × List ℕ

abbrev pub answer_of : Packed → Result ℕ PackRefusal
answer_of v = v.0

abbrev pub buffer_of : Packed → List ℕ
buffer_of v = v.1

module _ (ps : List Pair) (out : List ℕ) where
  pub packed_long : 16777216 < length (written ps) → packed ps out ≡ (Err TooLong, out)
  unfolding packed
  packed_long h = cond-true _ _ _ (lt-ltb _ _ h)

  pub packed_short : length (written ps) ≤ 16777216 → length out < length (written ps) → packed ps out ≡ (Err TooShort, out)
  unfolding packed
  packed_short h k = cond-false _ _ _ (le-ltb _ _ h) ∙ cond-true _ _ _ (lt-ltb _ _ k)

  pub packed_fits : length (written ps) ≤ 16777216 → length (written ps) ≤ length out
      → packed ps out ≡ (Ok (length (written ps)), written ps ++ drop (length (written ps)) out)
  unfolding packed
  packed_fits h k = cond-false _ _ _ (le-ltb _ _ h) ∙ cond-false _ _ _ (le-ltb _ _ k)

pub opens_again : OpensAgain
unfolding opened
opens_again ps w h = ap pairs_in (bundle_read (written ps) ps (record { short = h; lawful = w; is = refl }))

refused : {A : Type 0} {r : Result ℕ PackRefusal} {e : PackRefusal} {n : ℕ} → r ≡ Err e → r ≡ Ok n → A
refused p q = let z : ◌≡◌ {A = ℕ} 0 1 = cc in absurd (omega arith)

ok_same : {r : Result ℕ PackRefusal} {m n : ℕ} → r ≡ Ok m → r ≡ Ok n → m ≡ n
ok_same p q = cc

pub opens_packed : OpensPacked
opens_packed ps out n w e =
    let v = written ps in
    ⊎_elim (λ l. refused (ap answer_of (packed_long ps out l)) e)
    (λ s. ⊎_elim (λ l. refused (ap answer_of (packed_short ps out s l)) e)
    (λ r.
    let p = packed_fits ps out s r in
    let front : take n (packed ps out).1 ≡ v =
    ap (λ (u : List ℕ). take n u) (ap buffer_of p) ∙ take_at v (drop (length v) out) n (ok_same (ap answer_of p) e) in
    ap opened front ∙ opens_again ps w s)
    (cases_lt (length out) (length v)))
    (cases_lt 16777216 (length v))
