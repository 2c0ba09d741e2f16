-- What the machine reads is in the grammar: each state says what stands in the bytes before it, and a step keeps that.
use Rattle.std.proofs.Common.{◌≡◌, ℕ, zero, suc, ◌+◌, ◌-◌, ◌<◌, ◌≤◌, Bool, true, false, cond, ◌&&◌, eqb, ltb, List, [], ◌∷◌, ◌++◌, length, get_or, drop, Some, None, Ok, Err, Option, sym, refl, ap, ◌∙◌, subst, arith}
use Rattle.std.specs.List.{between}
use Rattle.std.proofs.lemmas.Bool.{ltb-false, cond_both}
use Rattle.std.proofs.lemmas.List.Edits.{between_none, between_more}
use Rattle.std.proofs.lemmas.List.{append_assoc}
use Rattle.syntax.specs.declared.kinds.Digits.{Digits as Form}
use Rattle.syntax.specs.declared.kinds.Fault.{Fault}
use Rattle.syntax.specs.declared.kinds.Letters.{Letters}
use Rattle.syntax.specs.declared.kinds.Literal.{Literal}
use Rattle.syntax.specs.Bytes.{white, digit, gap}
use Rattle.syntax.specs.Value.{Value, Items, Members, from, to, item, member, more_items, more_members}
use Rattle.syntax.specs.Value as v
use Rattle.syntax.specs.Grammar.{Byte, Ws, Word, Quoted, Spells, Text, spelling}
use Rattle.syntax.specs.Grammar as g
use Rattle.syntax.specs.Machine.{Rules, limits, Frame, in_array, in_object, Role, as_value, as_name, Mode, value, first, after, name1, name, colon, chars, digits, word, Outcome, whole, fault, State, live, over, deliver, step, step_live, step_first, step_after, step_name, step_digits, step_chars, closed, opened, spelled, ends, finish, ended, next_digits, next_letters, plain, malformed, run, start}
use Rattle.syntax.specs.Reading.{reading, longest, alone, too_long}
use Rattle.syntax.proofs.Gaps.{gap_within}
use Rattle.syntax.proofs.Runs.{run_step, run_end}
use Rattle.syntax.proofs.Allowed.{Allowed, AllowedItems, AllowedMembers}
use Rattle.syntax.proofs.SoundParts.{byte_at, gap_spaces, within, known, ws_more, word_more, Part, part_more, part_whole, PartOn, Numeral, numeral_more, numeral_whole, NumeralOn, counts, ItemsSo, items_more, items_close, Field, FieldsSo, fields_more, fields_close}
use Rattle.syntax.proofs.SoundParts as part

-- one more item, one more member
allowed_item : (r : Rules) (d : ℕ) (vs : Items) (w : Value) → AllowedItems r d vs → Allowed r d w → AllowedItems r d (more_items vs w)
allowed_item r d v.Items.none w h a = (a, tt)
allowed_item r d (item u vs) w h a = (h.0, allowed_item r d vs w h.1 a)

-- the members ms behind those before them
abbrev joined : Members → Members → Members
joined before v.end = before
joined before (member q n w ms) = joined (more_members before q n w) ms

abbrev together : Members → Members → Members
together v.end ms = ms
together (member q n w before) ms = member q n w (together before ms)

together_more : (before : Members) (q : ℕ) (n : List ℕ) (w : Value) (ms : Members) → together (more_members before q n w) ms ≡ together before (member q n w ms)
together_more v.end q n w ms = refl
together_more (member p m u before) q n w ms = ap (member p m u) (together_more before q n w ms)

together_end : (ms : Members) → together ms v.end ≡ ms
together_end v.end = refl
together_end (member q n w ms) = ap (member q n w) (together_end ms)

joined_together : (before ms : Members) → joined before ms ≡ together before ms
joined_together before v.end = sym (together_end before)
joined_together before (member q n w ms) = joined_together (more_members before q n w) ms ∙ together_more before q n w ms

allowed_behind : (r : Rules) (d : ℕ) (before ms : Members) (q : ℕ) (n : List ℕ) (w : Value) → AllowedMembers r d before ms → r.twice n (joined before ms) ≡ false → Allowed r d w → AllowedMembers r d before (more_members ms q n w)
allowed_behind r d before v.end q n w h t a = (t, a, tt)
allowed_behind r d before (member p m u ms) q n w h t a = (h.0, h.1, allowed_behind r d (more_members before p m u) ms q n w h.2 t a)

allowed_member : (r : Rules) (d : ℕ) (ms : Members) (q : ℕ) (n : List ℕ) (w : Value) → AllowedMembers r d v.end ms → r.twice n ms ≡ false → Allowed r d w → AllowedMembers r d v.end (more_members ms q n w)
allowed_member r d ms q n w h t a = allowed_behind r d v.end ms q n w h (ap (r.twice n) (joined_together v.end ms) ∙ t) a

-- The brackets of a stack stand open, and the next value stands from a place on, behind white space.
mutual
  data Open (r : Rules) (s : List ℕ) (o : ℕ) : List Frame → ℕ → Type 0 where
    nothing : Open r s o [] o
    array : {p a b : ℕ} {vs : Items} {k : List Frame} → Opens r s o k p 91 a → ItemsSo s a b vs → AllowedItems r (suc (length k)) vs → Open r s o (in_array p vs ∷ k) b
    object : {p q c d e : ℕ} {n : List ℕ} {ms : Members} {k : List Frame} → Object r s o k p ms q → {j : ℕ} → Ws s q j → Quoted s j c n → Ws s c d → Byte s d 58 e → r.twice n ms ≡ false → Open r s o (in_object p ms j n ∷ k) e

  -- a bracket b opened at p, in k
  data Opens (r : Rules) (s : List ℕ) (o : ℕ) : List Frame → ℕ → ℕ → ℕ → Type 0 where
    opens : {k : List Frame} {i p b a : ℕ} → Open r s o k i → Ws s i p → Byte s p b a → r.deep (length k) ≡ false → Opens r s o k p b a

  -- an object opened at p, in k, and has the members ms with their commas up to a place
  data Object (r : Rules) (s : List ℕ) (o : ℕ) : List Frame → ℕ → Members → ℕ → Type 0 where
    members : {k : List Frame} {p a b : ℕ} {ms : Members} → Opens r s o k p 123 a → FieldsSo s a b ms → AllowedMembers r (suc (length k)) v.end ms → Object r s o k p ms b

-- a value may begin at i, in k
data Ready (r : Rules) (s : List ℕ) (o : ℕ) (k : List Frame) (i : ℕ) : Type 0 where
  ready : {a : ℕ} → Open r s o k a → Ws s a i → Ready r s o k i

-- a member of the object at p may begin at i
data Next (r : Rules) (s : List ℕ) (o : ℕ) (k : List Frame) (p : ℕ) (ms : Members) (i : ℕ) : Type 0 where
  next : {a : ℕ} → Object r s o k p ms a → Ws s a i → Next r s o k p ms i

-- the value w stands in k
record Stands (r : Rules) (s : List ℕ) (o : ℕ) (k : List Frame) (w : Value) : Type 0 where
  before : Ready r s o k (from w)
  spells : Spells s w
  allowed : Allowed r (length k) w

abbrev Roled : Rules → List ℕ → ℕ → Role → List Frame → ℕ → Type 0
Roled r s o as_value k q = Ready r s o k q
Roled r s o (as_name p ms) k q = Next r s o k p ms q

-- the bytes n stand from q up to i
record Bytes (s : List ℕ) (q i : ℕ) (n : List ℕ) : Type 0 where
  since : q ≤ i
  bytes : n ≡ between q i s

-- what stands before the place i
abbrev Live : Rules → List ℕ → ℕ → Mode → List Frame → ℕ → Type 0
Live r s o value k i = Ready r s o k i
Live r s o (first p) k i = (a : ℕ) × Opens r s o k p 91 a × Ws s a i
Live r s o (after w) k i = Stands r s o k w × Ws s (to w) i
Live r s o (name1 p) k i = (a : ℕ) × Opens r s o k p 123 a × Ws s a i
Live r s o (name p ms) k i = Next r s o k p ms i
Live r s o (colon p ms q n) k i = (a : ℕ) × Next r s o k p ms q × Quoted s q a n × Ws s a i × (r.twice n ms ≡ false)
Live r s o (chars l e q n) k i = Roled r s o e k q × Byte s q 34 (q + 1) × Part s (q + 1) l i × Bytes s (q + 1) i n
Live r s o (digits f p n) k i = Ready r s o k p × Numeral s p f i × Bytes s p i n
Live r s o (word x xs w p) k i = (ys : List ℕ) × Ready r s o k p × Word s p i ys × (spelling w ≡ ys ++ x ∷ xs)

abbrev Told : Rules → List ℕ → ℕ → Outcome → Type 0
Told r s o (whole w) = Ws s o (from w) × Spells s w × Allowed r 0 w
Told r s o (fault f) = Unit {0}

abbrev Inv : Rules → List ℕ → ℕ → State → ℕ → Type 0
Inv r s o (live m k) i = Live r s o m k i
Inv r s o (over t) i = Told r s o t

bytes_none : (s : List ℕ) (i : ℕ) → Bytes s i i []
bytes_none s i = record { since = omega arith; bytes = sym (between_none s i) }

bytes_more : (s : List ℕ) (q i b : ℕ) (n : List ℕ) → Bytes s q i n → Byte s i b (i + 1) → Bytes s q (i + 1) (n ++ b ∷ [])
bytes_more s q i b n h x =
    record {
      since = let l = h.since in omega arith;
      bytes = ap (λ l. l ++ b ∷ []) h.bytes ∙ ap (λ c. between q i s ++ c ∷ []) (sym x.is) ∙ sym (between_more s q i 0 h.since x.inside);
    }

bytes_one : (s : List ℕ) (i b : ℕ) → Byte s i b (i + 1) → Bytes s i (i + 1) (b ∷ [])
bytes_one s i b x = bytes_more s i i b [] (bytes_none s i) x

module _ (r : Rules) (s : List ℕ) (o : ℕ) where
  -- the outermost value begins where the reading did
  outermost : {i : ℕ} → Ready r s o [] i → Ws s o i
  outermost (ready nothing x) = x

  told : (w : Value) → Stands r s o [] w → Told r s o (whole w)
  told w h = (outermost h.before, h.spells, h.allowed)

  delivered : (w : Value) (k : List Frame) → Stands r s o k w → Inv r s o (deliver w k) (to w)
  delivered w [] h = told w h
  delivered w (f ∷ k) h = (h, g.Ws.none)

  ready_more : {k : List Frame} {i b j : ℕ} → Ready r s o k i → Byte s i b j → white b ≡ true → Ready r s o k j
  ready_more (ready a x) y w = ready a (ws_more x y w)

  next_more : {k : List Frame} {p i b j : ℕ} {ms : Members} → Next r s o k p ms i → Byte s i b j → white b ≡ true → Next r s o k p ms j
  next_more (next a x) y w = next a (ws_more x y w)

  -- behind an item: a comma, or the end of the array
  item_comma : {p c a : ℕ} {vs : Items} {k : List Frame} {w : Value} → Ready r s o (in_array p vs ∷ k) (from w) → Spells s w → Allowed r (suc (length k)) w → Ws s (to w) c → Byte s c 44 a → Ready r s o (in_array p (more_items vs w) ∷ k) a
  item_comma {k = k} {w = w} (ready (array {vs = vs} x y h) z) u l t b = ready (array x (items_more y z u t b) (allowed_item r (suc (length k)) vs w h l)) g.Ws.none

  array_of : {k : List Frame} {p a j : ℕ} {vs : Items} → Opens r s o k p 91 a → Spells s (v.array p j vs) → AllowedItems r (suc (length k)) vs → Stands r s o k (v.array p j vs)
  array_of (opens x y b d) e h = record { before = ready x y; spells = e; allowed = (d, h) }

  array_spelled : {k : List Frame} {p a j : ℕ} {vs : Items} → Opens r s o k p 91 a → g.Elements s a j vs → Spells s (v.array p j vs)
  array_spelled (opens x y b d) e = g.Spells.array b e

  item_end : {p c a : ℕ} {vs : Items} {k : List Frame} {w : Value} → Ready r s o (in_array p vs ∷ k) (from w) → Spells s w → Allowed r (suc (length k)) w → Ws s (to w) c → Byte s c 93 a → Stands r s o k (v.array p a (more_items vs w))
  item_end {k = k} {w = w} (ready (array {vs = vs} x y h) z) u l t b = array_of x (array_spelled x (items_close y z u t b)) (allowed_item r (suc (length k)) vs w h l)

  no_items : {k : List Frame} {p a c j : ℕ} → Opens r s o k p 91 a → Ws s a c → Byte s c 93 j → Stands r s o k (v.array p j v.Items.none)
  no_items (opens x y b d) z e = array_of (opens x y b d) (g.Spells.no_items b z e) tt

  object_of : {k : List Frame} {p a j : ℕ} {ms : Members} → Opens r s o k p 123 a → Spells s (v.object p j ms) → AllowedMembers r (suc (length k)) v.end ms → Stands r s o k (v.object p j ms)
  object_of (opens x y b d) e h = record { before = ready x y; spells = e; allowed = (d, h) }

  object_spelled : {k : List Frame} {p a j : ℕ} {ms : Members} → Opens r s o k p 123 a → g.Fields s a j ms → Spells s (v.object p j ms)
  object_spelled (opens x y b d) e = g.Spells.object b e

  no_members : {k : List Frame} {p a c j : ℕ} → Opens r s o k p 123 a → Ws s a c → Byte s c 125 j → Stands r s o k (v.object p j v.end)
  no_members (opens x y b d) z e = object_of (opens x y b d) (g.Spells.no_members b z e) tt

  field_comma : {p q c a : ℕ} {n : List ℕ} {ms : Members} {k : List Frame} {w : Value} → Ready r s o (in_object p ms q n ∷ k) (from w) → Spells s w → Allowed r (suc (length k)) w → Ws s (to w) c → Byte s c 44 a → Next r s o k p (more_members ms q n w) a
  field_comma {q = q} {n = n} {k = k} {w = w} (ready (object {c = c} {d = d} {e = e} (members {ms = ms} x y h) z f t b tw) ah) u l bh co =
      let fd : Field s _ q n w = record { past_name = c; place = d; past_colon = e; before = z; quoted = f; behind = t; colon = b; ahead = ah; spells = u } in
      next (members x (fields_more y fd bh co) (allowed_member r (suc (length k)) ms q n w h tw l)) g.Ws.none

  field_end : {p q c a : ℕ} {n : List ℕ} {ms : Members} {k : List Frame} {w : Value} → Ready r s o (in_object p ms q n ∷ k) (from w) → Spells s w → Allowed r (suc (length k)) w → Ws s (to w) c → Byte s c 125 a → Stands r s o k (v.object p a (more_members ms q n w))
  field_end {q = q} {n = n} {k = k} {w = w} (ready (object {c = c} {d = d} {e = e} (members {ms = ms} x y h) z f t b tw) ah) u l bh co =
      let fd : Field s _ q n w = record { past_name = c; place = d; past_colon = e; before = z; quoted = f; behind = t; colon = b; ahead = ah; spells = u } in
      object_of x (object_spelled x (fields_close y fd bh co)) (allowed_member r (suc (length k)) ms q n w h tw l)

  -- the same, as a type that shows its state
  record Holds (a : State) (i : ℕ) : Type 0 where
    holds : Inv r s o a i

  -- a test decides how reading goes on
  way : (t : Bool) (a c : State) (i : ℕ) → (t ≡ true → Inv r s o a i) → (t ≡ false → Holds c i) → Holds (cond t a c) i
  way true a c i f h = record { holds = f refl }
  way false a c i f h = h refl

  past_value : (w : Value) (k : List Frame) (b i : ℕ) → Byte s i b (i + 1) → Stands r s o k w → Ws s (to w) i → Holds (step_after w k b i) (i + 1)
  past_value w [] b i x h u = record { holds = told w h }
  past_value w (in_array p vs ∷ k) b i x h u =
      way (white b) _ _ _ (λ e. (h, ws_more u x e))
      (λ _. way (eqb b 44) _ _ _ (λ e. item_comma h.before h.spells h.allowed u (known b 44 e x))
      (λ _. way (eqb b 93) _ _ _ (λ e. delivered (v.array p (i + 1) (more_items vs w)) k (item_end h.before h.spells h.allowed u (known b 93 e x))) (λ _. record { holds = tt })))
  past_value w (in_object p ms q n ∷ k) b i x h u =
      way (white b) _ _ _ (λ e. (h, ws_more u x e))
      (λ _. way (eqb b 44) _ _ _ (λ e. field_comma h.before h.spells h.allowed u (known b 44 e x))
      (λ _. way (eqb b 125) _ _ _ (λ e. delivered (v.object p (i + 1) (more_members ms q n w)) k (field_end h.before h.spells h.allowed u (known b 125 e x))) (λ _. record { holds = tt })))

  -- a bracket opens
  opening : {k : List Frame} (b c i : ℕ) (m : Mode) → eqb b c ≡ true → Byte s i b (i + 1) → Ready r s o k i → (Opens r s o k i c (i + 1) → Live r s o m k (i + 1)) → Inv r s o (opened r k i m) (i + 1)
  opening {k} b c i m e x (ready p u) f = (way (r.deep (length k)) _ _ _ (λ _. tt) (λ d. record { holds = f (opens p u (known b c e x) d) })).holds

  -- the first byte of a value
  past_first : (k : List Frame) (b i : ℕ) → Byte s i b (i + 1) → Ready r s o k i → Holds (step_first r k b i) (i + 1)
  past_first k b i x h =
      way (eqb b 34) _ _ _ (λ e. (h, known b 34 e x, part.Part.plain g.Chars.none, bytes_none s (i + 1)))
      (λ _. way (eqb b 91) _ _ _ (λ e. opening b 91 i (first i) e x h (λ y. (i + 1, y, g.Ws.none)))
      (λ _. way (eqb b 123) _ _ _ (λ e. opening b 123 i (name1 i) e x h (λ y. (i + 1, y, g.Ws.none)))
      (λ _. way (eqb b 45) _ _ _ (λ e. (h, part.Numeral.minus (known b 45 e x), bytes_one s i b x))
      (λ _. way (eqb b 48) _ _ _ (λ e. (h, part.Numeral.nought g.Minus.none (known b 48 e x), bytes_one s i b x))
      (λ z. way (digit b) _ _ _ (λ d. let w = counts b z d in (h, part.Numeral.whole g.Minus.none x w.0 w.1 g.Digits.none, bytes_one s i b x))
      (λ _. way (eqb b 110) _ _ _ (λ e. (110 ∷ [], h, g.Word.letter (known b 110 e x) g.Word.done, refl))
      (λ _. way (eqb b 116) _ _ _ (λ e. (116 ∷ [], h, g.Word.letter (known b 116 e x) g.Word.done, refl))
      (λ _. way (eqb b 102) _ _ _ (λ e. (102 ∷ [], h, g.Word.letter (known b 102 e x) g.Word.done, refl)) (λ _. record { holds = tt })))))))))

  -- a name's opening quote
  past_name : (p : ℕ) (ms : Members) (k : List Frame) (b i : ℕ) → Byte s i b (i + 1) → Next r s o k p ms i → Holds (step_name p ms k b i) (i + 1)
  past_name p ms k b i x h = way (eqb b 34) _ _ _ (λ e. (h, known b 34 e x, part.Part.plain g.Chars.none, bytes_none s (i + 1))) (λ _. record { holds = tt })

  -- a string closes
  quoted : {q i : ℕ} {n : List ℕ} → Byte s q 34 (q + 1) → g.Chars s (q + 1) i → Byte s i 34 (i + 1) → Bytes s (q + 1) i n → Quoted s q (i + 1) n
  quoted {q} {i} x c y h = record { inner = q + 1; close = i; opens = x; chars = c; closes = y; bytes = h.bytes }

  closing : (e : Role) (q : ℕ) (n : List ℕ) (k : List Frame) (i : ℕ) → Roled r s o e k q → Quoted s q (i + 1) n → Inv r s o (closed r e q n k i) (i + 1)
  closing as_value q n k i h x = delivered (v.string q (i + 1) n) k (record { before = h; spells = g.Spells.string x; allowed = tt })
  closing (as_name p ms) q n k i h x = (way (r.twice n ms) _ _ _ (λ _. tt) (λ t. record { holds = (i + 1, h, x, g.Ws.none, t) })).holds

  more_chars : (l : Option Letters) (e : Role) (q : ℕ) (n : List ℕ) (k : List Frame) (b i : ℕ) → Roled r s o e k q → Byte s q 34 (q + 1) → PartOn s (q + 1) l (i + 1) → Bytes s (q + 1) (i + 1) (n ++ b ∷ []) → Inv r s o (step_chars l e q n k b i) (i + 1)
  more_chars (Some l) e q n k b i h x y z = (h, x, y, z)
  more_chars None e q n k b i h x y z = tt

  past_char : (l : Letters) (e : Role) (q : ℕ) (n : List ℕ) (k : List Frame) (b i : ℕ) → Byte s i b (i + 1) → Live r s o (chars l e q n) k i → Holds (step_live r (chars l e q n) k b i) (i + 1)
  past_char l e q n k b i x h =
      way (plain l && eqb b 34) _ _ _ (λ t. let w = part_whole b h.2 t in closing e q n k i h.0 (quoted h.1 w.0 (known b 34 w.1 x) h.3))
      (λ t. record { holds = more_chars (next_letters l b) e q n k b i h.0 h.1 (part_more b (i + 1) h.2 x t) (bytes_more s (q + 1) i b n h.3 x) })

  -- a number
  numbered : {f : Form} {p i : ℕ} {n : List ℕ} {k : List Frame} → Live r s o (digits f p n) k i → ended f ≡ true → Stands r s o k (v.number p i n)
  numbered h e = record { before = h.0; spells = g.Spells.number (numeral_whole h.1 e) h.2.bytes; allowed = tt }

  past_digit : (y : Option Form) (f : Form) (p : ℕ) (n : List ℕ) (k : List Frame) (b i : ℕ) → Byte s i b (i + 1) → Live r s o (digits f p n) k i → NumeralOn s p y (i + 1) → Holds (step_digits y f p n k b i) (i + 1)
  past_digit (Some y) f p n k b i x h u = record { holds = (h.0, u, bytes_more s p i b n h.2 x) }
  past_digit None f p n k b i x h u = way (ended f) _ _ _ (λ e. (past_value (v.number p i n) k b i x (numbered h e) g.Ws.none).holds) (λ _. record { holds = tt })

  -- a literal
  past_letter : (x : ℕ) (xs : List ℕ) (w : Literal) (p : ℕ) (k : List Frame) (i : ℕ) → Byte s i x (i + 1) → Live r s o (word x xs w p) k i → Inv r s o (spelled xs w p k (i + 1)) (i + 1)
  past_letter x [] w p k i y h = delivered (v.literal p (i + 1) w) k (record { before = h.1; spells = g.Spells.literal (subst (Word s p (i + 1)) (sym h.3) (word_more h.2 y)); allowed = tt })
  past_letter x (z ∷ zs) w p k i y h = (h.0 ++ x ∷ [], h.1, word_more h.2 y, h.3 ∙ sym (append_assoc h.0 (x ∷ []) (z ∷ zs)))

  -- one byte
  kept : (m : Mode) (k : List Frame) (b i : ℕ) → Byte s i b (i + 1) → Live r s o m k i → Holds (step_live r m k b i) (i + 1)
  kept value k b i x h = way (white b) _ _ _ (λ w. ready_more h x w) (λ _. past_first k b i x h)
  kept (first p) k b i x h =
      way (white b) _ _ _ (λ w. (h.0, h.1, ws_more h.2 x w))
      (λ _. way (eqb b 93) _ _ _ (λ e. delivered (v.array p (i + 1) v.Items.none) k (no_items h.1 h.2 (known b 93 e x)))
      (λ _. past_first (in_array p v.Items.none ∷ k) b i x (ready (array h.1 part.ItemsSo.none tt) h.2)))
  kept (after w) k b i x h = past_value w k b i x h.0 h.1
  kept (name1 p) k b i x h =
      way (white b) _ _ _ (λ w. (h.0, h.1, ws_more h.2 x w))
      (λ _. way (eqb b 125) _ _ _ (λ e. delivered (v.object p (i + 1) v.end) k (no_members h.1 h.2 (known b 125 e x)))
      (λ _. past_name p v.end k b i x (next (members h.1 part.FieldsSo.none tt) h.2)))
  kept (name p ms) k b i x h = way (white b) _ _ _ (λ w. next_more h x w) (λ _. past_name p ms k b i x h)
  kept (colon p ms q n) k b i x h =
      way (white b) _ _ _ (λ w. (h.0, h.1, h.2, ws_more h.3 x w, h.4))
      (λ _. way (eqb b 58) _ _ _ (λ e. coloned h.1 h.2 h.3 (known b 58 e x) h.4) (λ _. record { holds = tt }))
    where
      coloned : {a : ℕ} → Next r s o k p ms q → Quoted s q a n → Ws s a i → Byte s i 58 (i + 1) → r.twice n ms ≡ false → Ready r s o (in_object p ms q n ∷ k) (i + 1)
      coloned (next y z) u c d t = ready (object y z u c d t) g.Ws.none
  kept (chars l e q n) k b i x h = past_char l e q n k b i x h
  kept (digits f p n) k b i x h = past_digit (next_digits f b) f p n k b i x h (numeral_more b (i + 1) h.1 x)
  kept (word c xs w p) k b i x h = way (eqb b c) _ _ _ (λ e. past_letter c xs w p k i (known b c e x) h) (λ _. record { holds = tt })

  kept_step : (a : State) (b i : ℕ) → Byte s i b (i + 1) → Inv r s o a i → Inv r s o (step r a b i) (i + 1)
  kept_step (live m k) b i x h = (kept m k b i x h).holds
  kept_step (over t) b i x h = h

  -- the bytes end
  ends_so : (w : Value) (k : List Frame) (i : ℕ) → Stands r s o k w → Told r s o (ends w k i)
  ends_so w [] i h = told w h
  ends_so w (f ∷ k) i h = tt

  kept_end : (a : State) (i : ℕ) → Inv r s o a i → Told r s o (finish a i)
  kept_end (over t) i h = h
  kept_end (live value k) i h = tt
  kept_end (live (first p) k) i h = tt
  kept_end (live (after w) k) i h = ends_so w k i h.0
  kept_end (live (name1 p) k) i h = tt
  kept_end (live (name p ms) k) i h = tt
  kept_end (live (colon p ms q n) k) i h = tt
  kept_end (live (chars l e q n) k) i h = tt
  kept_end (live (digits f p n) k) i h = cond_both (ended f) (ends (v.number p i n) k i) (fault (malformed i)) (Told r s o) (λ e. ends_so (v.number p i n) k i (numbered h e)) (λ _. tt)
  kept_end (live (word x xs w p) k) i h = tt

  -- all bytes
  kept_all : (n i : ℕ) (a : State) → n ≡ length s - i → Inv r s o a i → Told r s o (run r (drop i s) i a)
  kept_all zero i a e h = subst (Told r s o) (sym (run_end r s i a (omega arith))) (kept_end a i h)
  kept_all (suc n) i a e h =
      let l : i < length s = omega arith in
      subst (Told r s o) (sym (run_step r s i a l)) (kept_all n (i + 1) (step r a (get_or s i 0) i) (omega arith) (kept_step a (get_or s i 0) i (byte_at s i l) h))

-- The value that reading from a place gives stands there behind white space, is spelled there, and breaks no rule.
pub sound : (r : Rules) (s : List ℕ) (i : ℕ) (w : Value) → run r (drop i s) i start ≡ whole w → Ws s i (from w) × Spells s w × Allowed r 0 w
sound r s i w e = subst (Told r s i) e (kept_all r s i (length s - i) i start refl (ready nothing g.Ws.none))

pub gap_ws : (s : List ℕ) (i : ℕ) → i ≤ length s → Ws s i (gap s i)
gap_ws s i h = gap_spaces s i

apart : {f : Fault} {w : Value} → Err f ≡ Ok w → ⊥
apart e = let z : ◌≡◌ {A = ℕ} 0 1 = cc in omega arith

-- What reading accepts is short enough, a text that spells the value, and breaks no limit.
pub accepted : (s : List ℕ) (w : Value) → reading s ≡ Ok w → (length s ≤ longest) × Text s w × Allowed (limits true) 0 w
unfolding reading
accepted s w e = short (ltb longest (length s)) refl e
  where
    text : (u : Value) → run (limits true) s 0 start ≡ whole u → (t : Bool) → ltb (gap s (to u)) (length s) ≡ t → cond t (Err (malformed (gap s (to u)))) (Ok u) ≡ Ok w → Text s w × Allowed (limits true) 0 w
    text u h true l f = absurd (apart f)
    text u h false l f =
        let x = sound (limits true) s 0 u h in
        let k = within x.1 in
        let full : gap s (to u) ≡ length s = omega (arith, gap_within s (to u) k, ltb-false (gap s (to u)) (length s) l) in
        let is : u ≡ w = cc in
        subst (λ a. Text s a × Allowed (limits true) 0 a) is (record { before = x.0; spells = x.1; behind = subst (Ws s (to u)) full (gap_ws s (to u) k) }, x.2)

    ended_so : (t : Outcome) → run (limits true) s 0 start ≡ t → alone s t ≡ Ok w → Text s w × Allowed (limits true) 0 w
    ended_so (whole u) h f = text u h (ltb (gap s (to u)) (length s)) refl f
    ended_so (fault u) h f = absurd (apart f)

    short : (t : Bool) → ltb longest (length s) ≡ t → cond t (Err too_long) (alone s (run (limits true) s 0 start)) ≡ Ok w → (length s ≤ longest) × Text s w × Allowed (limits true) 0 w
    short true l f = absurd (apart f)
    short false l f = let y = ended_so (run (limits true) s 0 start) refl f in (ltb-false longest (length s) l, y.0, y.1)
