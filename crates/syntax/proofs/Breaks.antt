-- Which limits are broken so far, state by state: reading with the limits goes as reading by the grammar up to the first of them.
use Rattle.std.proofs.Common.{◌≡◌, ℕ, suc, ◌+◌, ◌≤◌, Bool, true, false, cond, ◌&&◌, eqb, leb, List, [], ◌∷◌, ◌++◌, length, Some, None, Option, sym, refl, ap, ◌∙◌, arith}
use Rattle.std.proofs.lemmas.List.{append-nil, append_assoc, length_push}
use Rattle.std.proofs.lemmas.Bool.{cond-true, cond-false}
use Rattle.syntax.specs.declared.kinds.Fault.{Fault}
use Rattle.syntax.specs.declared.kinds.Literal.{Literal}
use Rattle.syntax.specs.declared.kinds.Digits.{Digits}
use Rattle.syntax.specs.declared.kinds.Letters.{Letters}
use Rattle.syntax.specs.Bytes.{white, digit}
use Rattle.syntax.specs.Value.{Value, Items, Members, literal, number, string, array, object, none, item, end, member, more_items, more_members, to, has}
use Rattle.syntax.specs.Limits.{bracket, again, breaks, breaks_items, breaks_members}
use Rattle.syntax.specs.Laws.{Late}
use Rattle.syntax.specs.Machine.{Rules, grammar, limits, run, State, live, over, finish, ends, Outcome, whole, fault, malformed, too_deep, repeated, bad, Mode, value, first, after, name1, name, colon, chars, digits, word, Frame, in_array, in_object, Role, as_value, as_name, deliver, step_live, step_first, step_name, step_after, step_chars, step_digits, closed, spelled, opened, plain, next_letters, next_digits, ended}
use Rattle.syntax.proofs.Runs.{run_over}
use Rattle.syntax.proofs.Viable.{Fits}

-- one item more, and one member more

breaks_more_items : (d : ℕ) (vs : Items) (v : Value) → breaks_items d (more_items vs v) ≡ breaks_items d vs ++ breaks d v
unfolding breaks breaks_items breaks_members
breaks_more_items d none v = append-nil (breaks d v)
breaks_more_items d (item w vs) v = ap (λ l. breaks d w ++ l) (breaks_more_items d vs v) ∙ sym (append_assoc (breaks d w) (breaks_items d vs) (breaks d v))

abbrev join : Members → Members → Members
join end ms = ms
join (member q n v bs) ms = member q n v (join bs ms)

join_end : (bs : Members) → join bs end ≡ bs
join_end end = refl
join_end (member q n v bs) = ap (member q n v) (join_end bs)

join_more : (bs : Members) (q : ℕ) (n : List ℕ) (v : Value) (ms : Members) → join (more_members bs q n v) ms ≡ join bs (member q n v ms)
join_more end q n v ms = refl
join_more (member p m w bs) q n v ms = ap (member p m w) (join_more bs q n v ms)

breaks_more_behind : (d : ℕ) (bs ms : Members) (q : ℕ) (n : List ℕ) (v : Value) → breaks_members d bs (more_members ms q n v) ≡ breaks_members d bs ms ++ (again (join bs ms) q n ++ breaks d v)
unfolding breaks breaks_items breaks_members
breaks_more_behind d bs end q n v = ap (λ l. again bs q n ++ l) (append-nil (breaks d v)) ∙ ap (λ x. again x q n ++ breaks d v) (sym (join_end bs))
breaks_more_behind d bs (member p m w ms) q n v =
    let more = more_members bs p m w in
    let rest = again (join bs (member p m w ms)) q n ++ breaks d v in
    let e : breaks_members d more (more_members ms q n v) ≡ breaks_members d more ms ++ rest = breaks_more_behind d more ms q n v ∙ ap (λ x. breaks_members d more ms ++ (again x q n ++ breaks d v)) (join_more bs p m w ms) in
    ap (λ l. again bs p m ++ (breaks d w ++ l)) e ∙ ap (λ l. again bs p m ++ l) (sym (append_assoc (breaks d w) (breaks_members d more ms) rest)) ∙ sym (append_assoc (again bs p m) (breaks d w ++ breaks_members d more ms) rest)

breaks_more_members : (d : ℕ) (ms : Members) (q : ℕ) (n : List ℕ) (v : Value) → breaks_members d end (more_members ms q n v) ≡ breaks_members d end ms ++ (again ms q n ++ breaks d v)
breaks_more_members d ms q n v = breaks_more_behind d end ms q n v

-- What is broken so far, in the order of the text: in what stands open, from the outside in, and in what was read last.

abbrev pub stack_breaks : List Frame → List Fault
stack_breaks [] = []
stack_breaks (in_array p vs ∷ k) = stack_breaks k ++ (bracket (length k) p ++ breaks_items (suc (length k)) vs)
stack_breaks (in_object p ms q n ∷ k) = stack_breaks k ++ (bracket (length k) p ++ (breaks_members (suc (length k)) end ms ++ again ms q n))

-- the members so far of the object that opened at p inside d others
abbrev pub member_breaks : ℕ → ℕ → Members → List Fault
member_breaks d p ms = bracket d p ++ breaks_members (suc d) end ms

abbrev pub role_breaks : ℕ → Role → List Fault
role_breaks d as_value = []
role_breaks d (as_name p ms) = member_breaks d p ms

abbrev pub mode_breaks : ℕ → Mode → List Fault
mode_breaks d value = []
mode_breaks d (first p) = bracket d p
mode_breaks d (after v) = breaks d v
mode_breaks d (name1 p) = bracket d p
mode_breaks d (name p ms) = member_breaks d p ms
mode_breaks d (colon p ms q n) = bracket d p ++ (breaks_members (suc d) end ms ++ again ms q n)
mode_breaks d (chars o e q n) = role_breaks d e
mode_breaks d (digits g p n) = []
mode_breaks d (word x xs w p) = []

abbrev pub so_far : Mode → List Frame → List Fault
so_far m k = stack_breaks k ++ mode_breaks (length k) m

-- a limit that is broken at the place i
pub data Limit (i : ℕ) : Fault → Type 0 where
  deep : Limit i (too_deep i)
  twice : Limit i (repeated i)

-- Where one byte at i leads with the limits, and where by the grammar, from a state in which fs are broken so far and in which the bytes may end with o.
pub data Moves (i : ℕ) (fs : List Fault) (o : Outcome) : State → State → Type 0 where
  goes : {m : Mode} {k : List Frame} → Fits (i + 1) m k → so_far m k ≡ fs → Moves i fs o (live m k) (live m k)
  closes : {v : Value} → to v ≡ i + 1 → breaks 0 v ≡ fs → Moves i fs o (over (whole v)) (over (whole v))
  closed_before : {v : Value} → to v ≡ i → o ≡ whole v → breaks 0 v ≡ fs → Moves i fs o (over (whole v)) (over (whole v))
  ill : Moves i fs o (bad i) (bad i)
  breaking : {f : Fault} {m : Mode} {k : List Frame} → Limit i f → Fits (i + 1) m k → so_far m k ≡ fs ++ f ∷ [] → Moves i fs o (over (fault f)) (live m k)

abbrev pub strict : Rules
strict = limits true

module _ (i : ℕ) (fs : List Fault) (o : Outcome) where
  either : (t : Bool) (x y x' y' : State) → Moves i fs o x x' → Moves i fs o y y' → Moves i fs o (cond t x y) (cond t x' y')
  either true x y x' y' a b = a
  either false x y x' y' a b = b

  moves_deliver : (v : Value) (k : List Frame) → to v ≡ i + 1 → stack_breaks k ++ breaks (length k) v ≡ fs → Moves i fs o (deliver v k) (deliver v k)
  moves_deliver v [] h e = closes h e
  moves_deliver v (f ∷ k) h e = goes tt e

  moves_open : (k : List Frame) (m : Mode) → stack_breaks k ≡ fs → mode_breaks (length k) m ≡ bracket (length k) i → Fits (i + 1) m k → Moves i fs o (opened strict k i m) (opened grammar k i m)
  moves_open k m e n h = by (leb 16 (length k)) refl
    where
      by : (t : Bool) → leb 16 (length k) ≡ t → Moves i fs o (cond t (over (fault (too_deep i))) (live m k)) (live m k)
      by true l = breaking deep h (ap (λ x. stack_breaks k ++ x) (n ∙ cond-true _ _ _ l) ∙ ap (λ x. x ++ too_deep i ∷ []) e)
      by false l = goes h (ap (λ x. stack_breaks k ++ x) (n ∙ cond-false _ _ _ l) ∙ append-nil (stack_breaks k) ∙ e)

  -- a state in which nothing is broken besides what stands open
  goes_in : (m : Mode) (k : List Frame) → mode_breaks (length k) m ≡ [] → stack_breaks k ≡ fs → Fits (i + 1) m k → Moves i fs o (live m k) (live m k)
  goes_in m k n e h = goes h (ap (λ x. stack_breaks k ++ x) n ∙ append-nil (stack_breaks k) ∙ e)

  moves_first : (k : List Frame) (b : ℕ) → stack_breaks k ≡ fs → Moves i fs o (step_first strict k b i) (step_first grammar k b i)
  moves_first k b e =
      let z : i + 1 ≡ i + 1 + 0 = omega arith in
      either (eqb b 34) _ _ _ _ (goes_in _ k refl e z)
      (either (eqb b 91) _ _ _ _ (moves_open k (first i) e refl tt)
      (either (eqb b 123) _ _ _ _ (moves_open k (name1 i) e refl tt)
      (either (eqb b 45) _ _ _ _ (goes_in _ k refl e tt)
      (either (eqb b 48) _ _ _ _ (goes_in _ k refl e tt)
      (either (digit b) _ _ _ _ (goes_in _ k refl e tt)
      (either (eqb b 110) _ _ _ _ (goes_in _ k refl e tt)
      (either (eqb b 116) _ _ _ _ (goes_in _ k refl e tt)
      (either (eqb b 102) _ _ _ _ (goes_in _ k refl e tt) ill))))))))

  moves_after : (v : Value) (k : List Frame) (b : ℕ) → (k ≡ [] → (to v ≡ i) × (o ≡ whole v)) → stack_breaks k ++ breaks (length k) v ≡ fs → Moves i fs o (step_after v k b i) (step_after v k b i)
  unfolding breaks breaks_items breaks_members
  moves_after v [] b h e = closed_before (h refl).0 (h refl).1 e
  moves_after v (in_array p vs ∷ k) b h e =
      let d = length k in
      let more : stack_breaks k ++ (bracket d p ++ breaks_items (suc d) (more_items vs v)) ≡ fs
      = ap (λ l. stack_breaks k ++ (bracket d p ++ l)) (breaks_more_items (suc d) vs v) ∙ ap (λ l. stack_breaks k ++ l) (sym (append_assoc (bracket d p) (breaks_items (suc d) vs) (breaks (suc d) v))) ∙ sym (append_assoc (stack_breaks k) (bracket d p ++ breaks_items (suc d) vs) (breaks (suc d) v)) ∙ e in
      either (white b) _ _ _ _ (goes tt e)
      (either (eqb b 44) _ _ _ _ (goes_in value (in_array p (more_items vs v) ∷ k) refl more tt)
      (either (eqb b 93) _ _ _ _ (moves_deliver (array p (i + 1) (more_items vs v)) k refl more) ill))
  moves_after v (in_object p ms q n ∷ k) b h e =
      let d = length k in
      let before = breaks_members (suc d) end ms in
      let more : stack_breaks k ++ (bracket d p ++ breaks_members (suc d) end (more_members ms q n v)) ≡ fs
      = ap (λ l. stack_breaks k ++ (bracket d p ++ l)) (breaks_more_members (suc d) ms q n v ∙ sym (append_assoc before (again ms q n) (breaks (suc d) v))) ∙ ap (λ l. stack_breaks k ++ l) (sym (append_assoc (bracket d p) (before ++ again ms q n) (breaks (suc d) v))) ∙ sym (append_assoc (stack_breaks k) (bracket d p ++ (before ++ again ms q n)) (breaks (suc d) v)) ∙ e in
      either (white b) _ _ _ _ (goes tt e)
      (either (eqb b 44) _ _ _ _ (goes tt more)
      (either (eqb b 125) _ _ _ _ (moves_deliver (object p (i + 1) (more_members ms q n v)) k refl more) ill))

  moves_name : (p : ℕ) (ms : Members) (k : List Frame) (b : ℕ) → so_far (name p ms) k ≡ fs → Moves i fs o (step_name p ms k b i) (step_name p ms k b i)
  moves_name p ms k b e =
      let z : i + 1 ≡ i + 1 + 0 = omega arith in
      either (eqb b 34) _ _ _ _ (goes z e) ill

  moves_closed : (r : Role) (q : ℕ) (n : List ℕ) (k : List Frame) → i ≡ q + 1 + length n → stack_breaks k ++ role_breaks (length k) r ≡ fs → Moves i fs o (closed strict r q n k i) (closed grammar r q n k i)
  unfolding breaks breaks_items breaks_members
  moves_closed as_value q n k h e = moves_deliver (string q (i + 1) n) k refl e
  moves_closed (as_name p ms) q n k h e = by (has n ms) refl
    where
      more : stack_breaks k ++ (bracket (length k) p ++ (breaks_members (suc (length k)) end ms ++ again ms q n)) ≡ fs ++ again ms q n
      more = ap (λ l. stack_breaks k ++ l) (sym (append_assoc (bracket (length k) p) (breaks_members (suc (length k)) end ms) (again ms q n))) ∙ sym (append_assoc (stack_breaks k) (member_breaks (length k) p ms) (again ms q n)) ∙ ap (λ l. l ++ again ms q n) e

      by : (t : Bool) → has n ms ≡ t → Moves i fs o (cond t (over (fault (repeated i))) (live (colon p ms q n) k)) (live (colon p ms q n) k)
      by true l = breaking twice tt (more ∙ ap (λ x. fs ++ x) (cond-true _ _ _ l ∙ ap (λ j. repeated j ∷ []) (sym h)))
      by false l = goes tt (more ∙ ap (λ x. fs ++ x) (cond-false _ _ _ l) ∙ append-nil fs)

  moves_chars : (x : Option Letters) (r : Role) (q : ℕ) (n : List ℕ) (k : List Frame) (b : ℕ) → i ≡ q + 1 + length n → stack_breaks k ++ role_breaks (length k) r ≡ fs → Moves i fs o (step_chars x r q n k b i) (step_chars x r q n k b i)
  moves_chars None r q n k b h e = ill
  moves_chars (Some x) r q n k b h e = let z : i + 1 ≡ q + 1 + length (n ++ b ∷ []) = omega (arith, length_push n b) in goes z e

  moves_digits : (x : Option Digits) (g : Digits) (p : ℕ) (n : List ℕ) (k : List Frame) (b : ℕ) → o ≡ finish (live (digits g p n) k) i → stack_breaks k ++ [] ≡ fs → Moves i fs o (step_digits x g p n k b i) (step_digits x g p n k b i)
  unfolding breaks breaks_items breaks_members
  moves_digits (Some x) g p n k b h e = goes tt e
  moves_digits None g p n k b h e = by (ended g) refl
    where
      by : (t : Bool) → ended g ≡ t → Moves i fs o (cond t (step_after (number p i n) k b i) (bad i)) (cond t (step_after (number p i n) k b i) (bad i))
      by true l = moves_after (number p i n) k b (λ z. (refl, h ∙ cond-true _ _ _ l ∙ ap (λ x. ends (number p i n) x i) z)) e
      by false l = ill

  moves_word : (xs : List ℕ) (w : Literal) (p : ℕ) (k : List Frame) → stack_breaks k ++ [] ≡ fs → Moves i fs o (spelled xs w p k (i + 1)) (spelled xs w p k (i + 1))
  unfolding breaks breaks_items breaks_members
  moves_word [] w p k e = moves_deliver (literal p (i + 1) w) k refl e
  moves_word (x ∷ xs) w p k e = goes tt e

-- every byte in a live state
pub moves : (m : Mode) (k : List Frame) (b i : ℕ) → Fits i m k → Moves i (so_far m k) (finish (live m k) i) (step_live strict m k b i) (step_live grammar m k b i)
unfolding breaks breaks_items breaks_members
moves value k b i h = either i _ _ (white b) _ _ _ _ (goes tt refl) (moves_first i _ _ k b (sym (append-nil (stack_breaks k))))
moves (first p) k b i h =
    either i _ _ (white b) _ _ _ _ (goes tt refl)
    (either i _ _ (eqb b 93) _ _ _ _ (moves_deliver i _ _ (array p (i + 1) none) k refl (ap (λ l. stack_breaks k ++ l) (append-nil (bracket (length k) p))))
    (moves_first i _ _ (in_array p none ∷ k) b (ap (λ l. stack_breaks k ++ l) (append-nil (bracket (length k) p)))))
moves (after v) [] b i h = absurd h
moves (after v) (f ∷ k) b i h = moves_after i _ _ v (f ∷ k) b (λ z. absurd (filled z)) refl
  where
    filled : f ∷ k ≡ [] → ⊥
    filled z = let y : ◌≡◌ {A = ℕ} 0 1 = cc in omega arith
moves (name1 p) k b i h =
    either i _ _ (white b) _ _ _ _ (goes tt refl)
    (either i _ _ (eqb b 125) _ _ _ _ (moves_deliver i _ _ (object p (i + 1) end) k refl (ap (λ l. stack_breaks k ++ l) (append-nil (bracket (length k) p))))
    (moves_name i _ _ p end k b (ap (λ l. stack_breaks k ++ l) (append-nil (bracket (length k) p)))))
moves (name p ms) k b i h = either i _ _ (white b) _ _ _ _ (goes tt refl) (moves_name i _ _ p ms k b refl)
moves (colon p ms q n) k b i h = either i _ _ (white b) _ _ _ _ (goes tt refl) (either i _ _ (eqb b 58) _ _ _ _ (goes tt (append-nil _)) ill)
moves (chars x r q n) k b i h = either i _ _ (plain x && eqb b 34) _ _ _ _ (moves_closed i _ _ r q n k h refl) (moves_chars i _ _ (next_letters x b) r q n k b h refl)
moves (digits g p n) k b i h = moves_digits i _ _ (next_digits g b) g p n k b refl refl
moves (word x xs w p) k b i h = either i _ _ (eqb b x) _ _ _ _ (moves_word i _ _ xs w p k refl) ill

pub apart : (f : Fault) (v : Value) → fault f ≡ whole v → ⊥
apart f v e = let y : ◌≡◌ {A = ℕ} 0 1 = cc in omega arith

pub same_whole : (v w : Value) → whole v ≡ whole w → v ≡ w
same_whole v w e = cc

-- where the bytes end with a value, it ends there and breaks what was broken so far
pub record Ended (i : ℕ) (fs : List Fault) (v : Value) : Type 0 where
  pub long : to v ≡ i
  pub all : breaks 0 v ≡ fs

ended_number : (t : Bool) (p : ℕ) (n : List ℕ) (k : List Frame) (i : ℕ) (v : Value) → cond t (ends (number p i n) k i) (fault (malformed i)) ≡ whole v → Ended i (stack_breaks k ++ []) v
unfolding breaks breaks_items breaks_members
ended_number false p n k i v e = absurd (apart (malformed i) v e)
ended_number true p n (f ∷ k) i v e = absurd (apart (malformed i) v e)
ended_number true p n [] i v e = let z = same_whole (number p i n) v e in record { long = ap to (sym z); all = ap (breaks 0) (sym z) }

pub ended_here : (m : Mode) (k : List Frame) (i : ℕ) (v : Value) → Fits i m k → finish (live m k) i ≡ whole v → Ended i (so_far m k) v
ended_here value k i v h e = absurd (apart (malformed i) v e)
ended_here (first p) k i v h e = absurd (apart (malformed i) v e)
ended_here (after w) [] i v h e = absurd h
ended_here (after w) (f ∷ k) i v h e = absurd (apart (malformed i) v e)
ended_here (name1 p) k i v h e = absurd (apart (malformed i) v e)
ended_here (name p ms) k i v h e = absurd (apart (malformed i) v e)
ended_here (colon p ms q n) k i v h e = absurd (apart (malformed i) v e)
ended_here (chars x r q n) k i v h e = absurd (apart (malformed i) v e)
ended_here (digits g p n) k i v h e = ended_number (ended g) p n k i v e
ended_here (word x xs w p) k i v h e = absurd (apart (malformed i) v e)

-- where the bytes end with a fault, it stands there
pub ill_here : (m : Mode) (k : List Frame) (i : ℕ) (f : Fault) → finish (live m k) i ≡ fault f → f ≡ malformed i
ill_here value k i f e = cc
ill_here (first p) k i f e = cc
ill_here (after w) [] i f e = absurd (apart f w (sym e))
ill_here (after w) (g ∷ k) i f e = cc
ill_here (name1 p) k i f e = cc
ill_here (name p ms) k i f e = cc
ill_here (colon p ms q n) k i f e = cc
ill_here (chars x r q n) k i f e = cc
ill_here (digits g p n) k i f e = by (ended g) k e
  where
    by : (t : Bool) (k : List Frame) → cond t (ends (number p i n) k i) (fault (malformed i)) ≡ fault f → f ≡ malformed i
    by false k e = cc
    by true [] e = absurd (apart f (number p i n) (sym e))
    by true (g ∷ k) e = cc
ill_here (word x xs w p) k i f e = cc

-- the value breaks fs, and then nothing before the place i
pub record Grown (i : ℕ) (fs : List Fault) (v : Value) : Type 0 where
  pub later : List Fault
  pub late : Late i later
  pub all : breaks 0 v ≡ fs ++ later

grown : (i : ℕ) (fs : List Fault) (v : Value) → breaks 0 v ≡ fs → Grown i fs v
grown i fs v e = record { later = []; late = tt; all = e ∙ sym (append-nil fs) }

late_before : (i : ℕ) (fs : List Fault) → Late (i + 1) fs → Late i fs
late_before i [] h = tt
late_before i (f ∷ fs) h = omega arith

late_limit : (i : ℕ) (f : Fault) → Limit i f → i ≤ f.place
late_limit i f deep = omega arith
late_limit i f twice = omega arith

grows_on : (l : List ℕ) (i : ℕ) (fs : List Fault) (o : Outcome) (v : Value) (x y : State) → Moves i fs o x y → run grammar l (i + 1) y ≡ whole v
    → ((m : Mode) (k : List Frame) → Fits (i + 1) m k → run grammar l (i + 1) (live m k) ≡ whole v → Grown (i + 1) (so_far m k) v) → Grown i fs v
grows_on l i fs o v x y (goes {m = m} {k = k} h e) r next =
    let g = next m k h r in
    record { later = g.later; late = late_before i g.later g.late; all = g.all ∙ ap (λ x. x ++ g.later) e }
grows_on l i fs o v x y (closes {v = w} h e) r next = grown i fs v (ap (breaks 0) (sym (same_whole w v (sym (run_over grammar l (i + 1) (whole w)) ∙ r))) ∙ e)
grows_on l i fs o v x y (closed_before {v = w} h z e) r next = grown i fs v (ap (breaks 0) (sym (same_whole w v (sym (run_over grammar l (i + 1) (whole w)) ∙ r))) ∙ e)
grows_on l i fs o v x y ill r next = absurd (apart (malformed i) v (sym (run_over grammar l (i + 1) (fault (malformed i))) ∙ r))
grows_on l i fs o v x y (breaking {f = f} {m = m} {k = k} j h e) r next =
    let g = next m k h r in
    record { later = f ∷ g.later; late = late_limit i f j; all = g.all ∙ ap (λ x. x ++ g.later) e ∙ append_assoc fs (f ∷ []) g.later }

-- the value that reading by the grammar comes to breaks what was broken so far, and then nothing before this place
pub grows : (l : List ℕ) (i : ℕ) (m : Mode) (k : List Frame) (v : Value) → Fits i m k → run grammar l i (live m k) ≡ whole v → Grown i (so_far m k) v
unfolding run
grows [] i m k v h r = grown i (so_far m k) v (ended_here m k i v h r).all
grows (b ∷ l) i m k v h r = grows_on l i (so_far m k) _ v _ _ (moves m k b i h) r (λ m' k' h' r'. grows l (i + 1) m' k' v h' r')
