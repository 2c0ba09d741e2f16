-- Each part of a value that was read is what is read at its place.
use Rattle.std.proofs.Common.{◌≡◌, ℕ, ◌+◌, ◌-◌, ◌<◌, ◌≤◌, Bool, true, false, cond, eqb, ltb, ◌⊎◌, List, [], ◌∷◌, length, get_or, drop, Some, None, Ok, Err, Option, sym, refl, ap, ◌∙◌, subst, inl, inr, ⊎_elim, arith}
use Rattle.std.specs.Option.{option_map}
use Rattle.std.specs.List.{between}
use Rattle.std.proofs.lemmas.List.Edits.{length-between}
use Rattle.std.proofs.lemmas.Bool.{cond-true, cond-false, cases_Bool, lt-ltb, ltb-false, eq-eqb, and_from, and_right}
use Rattle.syntax.specs.Bytes.{white, gap}
use Rattle.syntax.specs.Value.{Value, Items, Members, from, to}
use Rattle.syntax.specs.Value as v
use Rattle.syntax.specs.Grammar.{Byte, Ws, Quoted, Spells, Elements, last_item, more_items, Fields, last_field, more_fields}
use Rattle.syntax.specs.Grammar as g
use Rattle.syntax.specs.Machine.{Rules, limits, Outcome, whole, fault, malformed, Frame, live, as_value, value, over, run, start, deliver}
use Rattle.syntax.specs.Steps.{Leads}
use Rattle.syntax.specs.Reading.{outcome_value, value_at, reading, alone, longest, too_long}
use Rattle.syntax.specs.Walking.{byte_is, Member, listed_items, listed, Step, after_comma, item_step, item_at, member_step, member_of, member_at, unrolled, items_from, members_from, rest_items, rest_members, Walks}
use Rattle.syntax.proofs.Allowed.{Allowed, AllowedItems, AllowedMembers}
use Rattle.syntax.proofs.Gaps.{gap_from, gap_solid}
use Rattle.syntax.proofs.Runs.{run_over, loose_gap, fails}
use Rattle.syntax.proofs.CompleteParts.{stopper, Stops, ws_order, ws_gap, chars_order, ws_stops, byte_stops, quoted_run}
use Rattle.syntax.proofs.Complete.{complete, spells_order, spells_solid}
use Rattle.syntax.proofs.Keeps.{shallower, limits_less}
use Rattle.syntax.proofs.Sound.{sound}
use Rattle.syntax.proofs.Chains.{Rises, unroll}

-- a value was read just where reading came to one
whole_from : (o : Outcome) (v : Value) → outcome_value o ≡ Some v → o ≡ whole v
whole_from (whole w) v e = cc
whole_from (fault f) v e = cc

pub came_to : (s : List ℕ) (i : ℕ) (v : Value) → value_at s i ≡ Some v → run (limits false) (drop i s) i start ≡ whole v
unfolding value_at
came_to s i v e = whole_from (run (limits false) (drop i s) i start) v e

pub comes_to : (s : List ℕ) (i : ℕ) (v : Value) → run (limits false) (drop i s) i start ≡ whole v → value_at s i ≡ Some v
unfolding value_at
comes_to s i v e = ap outcome_value e

-- white space before a value is read over
pub value_at_gap : (s : List ℕ) (i : ℕ) → value_at s i ≡ value_at s (gap s i)
unfolding value_at
value_at_gap s i = ap outcome_value (loose_gap (limits false) s i start tt)

-- no value begins with a closing bracket or brace
no_value : (s : List ℕ) (i b : ℕ) → i < length s → get_or s i 0 ≡ b → (b ≡ 93) ⊎ (b ≡ 125) → value_at s i ≡ None
unfolding value_at
no_value s i b h e (inl c) = ap outcome_value (fails (limits false) s i start (malformed i) h (rw (e ∙ c)))
no_value s i b h e (inr c) = ap outcome_value (fails (limits false) s i start (malformed i) h (rw (e ∙ c)))

-- a byte that is known, and one that is another
is_byte : (s : List ℕ) (i b a : ℕ) → Byte s i b a → byte_is s i b ≡ true
is_byte s i b a x = and_from _ _ (lt-ltb i (length s) x.inside) (eq-eqb (get_or s i 0) b x.is)

is_other : (s : List ℕ) (i b c a : ℕ) → Byte s i b a → eqb b c ≡ false → byte_is s i c ≡ false
is_other s i b c a x e = and_right (ltb i (length s)) (eqb (get_or s i 0) c) (ap (λ n. eqb n c) x.is ∙ e)

-- a comma behind what ended at j
comma_on : (s : List ℕ) (j c a : ℕ) → gap s j ≡ c → Byte s c 44 a → after_comma s j ≡ Some a
comma_on s j c a e x = ap (λ k. cond (byte_is s k 44) (Some (k + 1)) None) e ∙ cond-true (byte_is s c 44) (Some (c + 1)) None (is_byte s c 44 a x) ∙ ap Some (sym x.next)

comma_off : (s : List ℕ) (j c b a : ℕ) → gap s j ≡ c → Byte s c b a → eqb b 44 ≡ false → after_comma s j ≡ None
comma_off s j c b a e x h = ap (λ k. cond (byte_is s k 44) (Some (k + 1)) None) e ∙ cond-false (byte_is s c 44) (Some (c + 1)) None (is_other s c b 44 a x h)

-- the next one begins behind the last
comma_past : (s : List ℕ) (j k : ℕ) → after_comma s j ≡ Some k → j < k
comma_past s j k = by (byte_is s (gap s j) 44)
  where
    by : (t : Bool) → cond t (Some (gap s j + 1)) None ≡ Some k → j < k
    by true e = let d : gap s j + 1 ≡ k = cc in omega (arith, gap_from s j)
    by false e = let z : ◌≡◌ {A = ℕ} 0 1 = cc in absurd (omega arith)

-- white space, a comma or a closing bracket behind a value
stops_at : (s : List ℕ) (i j b a : ℕ) → Ws s i j → Byte s j b a → stopper b ≡ true → Stops s i
stops_at s i j b a w x e = ws_stops w (byte_stops x e)

-- a string is read, whatever stands behind it
complete_string : (r : Rules) (s : List ℕ) (q c : ℕ) (n : List ℕ) → Quoted s q c n → (k : List Frame) → Leads r s q (live value k) c (deliver (v.string q c n) k)
complete_string r s q c n h k = quoted_run r s h (live value k) as_value k (deliver (v.string q c n) k) refl (ap (λ j. deliver (v.string q j n) k) (sym h.closes.next))

-- where a value that was read stands
pub read_place : (s : List ℕ) (i : ℕ) (v : Value) → value_at s i ≡ Some v → (i ≤ from v) × (from v < to v) × (to v ≤ length s)
read_place s i v e =
    let p = sound (limits false) s i v (came_to s i v e) in
    (ws_order p.0, (spells_order p.1).0, (spells_order p.1).1)

-- white space up to a value
gap_to : (s : List ℕ) (i : ℕ) (v : Value) → Ws s i (from v) → Spells s v → gap s i ≡ from v
gap_to s i v w h = ws_gap w (λ l. spells_solid h) (omega (arith, (spells_order h).0, (spells_order h).1))

-- a value is read again where it begins
read_again : (s : List ℕ) (i : ℕ) (v : Value) → value_at s i ≡ Some v → value_at s (from v) ≡ Some v
read_again s i v e =
    let p = sound (limits false) s i v (came_to s i v e) in
    ap (value_at s) (sym (gap_to s i v p.0 p.1)) ∙ sym (value_at_gap s i) ∙ e

-- what is spelled at a place is read there
lands : (s : List ℕ) (i : ℕ) (v : Value) → Ws s i (from v) → Spells s v → Leads (limits false) s (from v) start (to v) (over (whole v)) → value_at s i ≡ Some v
lands s i v w h l = value_at_gap s i ∙ ap (value_at s) (gap_to s i v w h) ∙ comes_to s (from v) v (l ∙ run_over (limits false) (drop (to v) s) (to v) (whole v))

read_at : (s : List ℕ) (i : ℕ) (v : Value) → Ws s i (from v) → Spells s v → Allowed (limits false) 0 v → Stops s (to v) → value_at s i ≡ Some v
read_at s i v w h a t = lands s i v w h (complete (limits false) s v h [] a t)

read_string : (s : List ℕ) (i q c : ℕ) (n : List ℕ) → Ws s i q → Quoted s q c n → value_at s i ≡ Some (v.string q c n)
read_string s i q c n w h = lands s i (v.string q c n) w (g.string h) (complete_string (limits false) s q c n h [])

-- an item stands within the bytes, and the next one behind it
pub item_rises : (s : List ℕ) (i : ℕ) (t : Step Value) → item_at s i ≡ Some t → Rises (length s) i t
item_rises s i t = by (value_at s i) refl
  where
    by : (o : Option Value) → value_at s i ≡ o → option_map (item_step s) o ≡ Some t → Rises (length s) i t
    by None e d = let z : ◌≡◌ {A = ℕ} 0 1 = cc in absurd (omega arith)
    by (Some v) e d =
        let p = read_place s i v e in
        let c : item_step s v ≡ t = cc in
        record { inside = omega arith; on = λ j n. let m : to v < j = comma_past s (to v) j (ap (λ u. u.next) c ∙ n) in omega arith }

-- the first item, and then those from the next place on
pub items_unroll : (s : List ℕ) (i : ℕ) → items_from s i ≡ unrolled (items_from s) (item_at s i)
unfolding items_from
items_unroll s i = unroll (item_at s) (length s) (item_rises s) i

pub items_none : (s : List ℕ) (i : ℕ) → item_at s i ≡ None → items_from s i ≡ []
items_none s i e = items_unroll s i ∙ ap (unrolled (items_from s)) e

pub items_more : (s : List ℕ) (i : ℕ) (t : Step Value) → item_at s i ≡ Some t → items_from s i ≡ t.here ∷ rest_items s t.next
items_more s i t e = items_unroll s i ∙ ap (unrolled (items_from s)) e

-- what a member is made of: a string, and behind its colon a value
pub record Made (s : List ℕ) (i : ℕ) (t : Step Member) : Type 0 where
  pub close : ℕ
  pub name_read : value_at s i ≡ Some (v.string t.here.at close t.here.name)
  pub value_read : value_at s (gap s close + 1) ≡ Some t.here.value
  pub goes_on : t.next ≡ after_comma s (to t.here.value)

pub member_made : (s : List ℕ) (i : ℕ) (t : Step Member) → member_at s i ≡ Some t → Made s i t
member_made s i t = by (value_at s i) refl
  where
    last : (q c : ℕ) (n : List ℕ) → value_at s i ≡ Some (v.string q c n) → (o : Option Value) → value_at s (gap s c + 1) ≡ o → option_map (member_step s q n) o ≡ Some t → Made s i t
    last q c n x None e d = let z : ◌≡◌ {A = ℕ} 0 1 = cc in absurd (omega arith)
    last q c n x (Some w) e d = let u : member_step s q n w ≡ t = cc in subst (Made s i) u (record { close = c; name_read = x; value_read = e; goes_on = refl })

    colon : (q c : ℕ) (n : List ℕ) → value_at s i ≡ Some (v.string q c n) → (b : Bool) → cond b (option_map (member_step s q n) (value_at s (gap s c + 1))) None ≡ Some t → Made s i t
    colon q c n x true d = last q c n x (value_at s (gap s c + 1)) refl d
    colon q c n x false d = let z : ◌≡◌ {A = ℕ} 0 1 = cc in absurd (omega arith)

    by : (o : Option Value) → value_at s i ≡ o → member_of s o ≡ Some t → Made s i t
    by None e d = let z : ◌≡◌ {A = ℕ} 0 1 = cc in absurd (omega arith)
    by (Some (v.literal x y w)) e d = let z : ◌≡◌ {A = ℕ} 0 1 = cc in absurd (omega arith)
    by (Some (v.number x y n)) e d = let z : ◌≡◌ {A = ℕ} 0 1 = cc in absurd (omega arith)
    by (Some (v.string q c n)) e d = colon q c n e (byte_is s (gap s c) 58) d
    by (Some (v.array x y vs)) e d = let z : ◌≡◌ {A = ℕ} 0 1 = cc in absurd (omega arith)
    by (Some (v.object x y ms)) e d = let z : ◌≡◌ {A = ℕ} 0 1 = cc in absurd (omega arith)

-- a member stands within the bytes, and the next one behind it
pub member_rises : (s : List ℕ) (i : ℕ) (t : Step Member) → member_at s i ≡ Some t → Rises (length s) i t
member_rises s i t e =
    let m = member_made s i t e in
    let p = read_place s i (v.string t.here.at m.close t.here.name) m.name_read in
    let q = read_place s (gap s m.close + 1) t.here.value m.value_read in
    let l = gap_from s m.close in
    record { inside = omega arith; on = λ j x. let y : to t.here.value < j = comma_past s (to t.here.value) j (sym m.goes_on ∙ x) in omega arith }

-- the first member, and then those from the next place on
pub members_unroll : (s : List ℕ) (i : ℕ) → members_from s i ≡ unrolled (members_from s) (member_at s i)
unfolding members_from
members_unroll s i = unroll (member_at s) (length s) (member_rises s) i

pub members_none : (s : List ℕ) (i : ℕ) → member_at s i ≡ None → members_from s i ≡ []
members_none s i e = members_unroll s i ∙ ap (unrolled (members_from s)) e

pub members_more : (s : List ℕ) (i : ℕ) (t : Step Member) → member_at s i ≡ Some t → members_from s i ≡ t.here ∷ rest_members s t.next
members_more s i t e = members_unroll s i ∙ ap (unrolled (members_from s)) e

-- white space up to a byte that is none
gap_byte : (s : List ℕ) (i j b a : ℕ) → Ws s i j → Byte s j b a → white b ≡ false → gap s i ≡ j
gap_byte s i j b a w x e = ws_gap w (λ l. ap white x.is ∙ e) (omega (arith, x.inside))

-- an item behind which white space stands, and then the byte b
item_here : (s : List ℕ) (i c b a : ℕ) (w : Value) → Ws s i (from w) → Spells s w → Allowed (limits false) 1 w → Ws s (to w) c → Byte s c b a → stopper b ≡ true → item_at s i ≡ Some (item_step s w)
item_here s i c b a w m h ok n x e = ap (option_map (item_step s)) (read_at s i w m h (shallower false 1 0 w (omega arith) ok) (stops_at s (to w) c b a n x e))

-- the items between two brackets
items_between : (s : List ℕ) (i j : ℕ) (vs : Items) → Elements s i j vs → AllowedItems (limits false) 1 vs → items_from s i ≡ listed_items vs
items_between s i j vs (last_item {c = c} {w = w} m h n x) ok =
    items_more s i (item_step s w) (item_here s i c 93 j w m h ok.0 n x refl)
    ∙ ap (λ o. w ∷ rest_items s o) (comma_off s (to w) c 93 j (gap_byte s (to w) c 93 j n x refl) x refl)
items_between s i j vs (more_items {c = c} {a = a} {w = w} {vs = us} m h n x t) ok =
    items_more s i (item_step s w) (item_here s i c 44 a w m h ok.0 n x refl)
    ∙ ap (λ o. w ∷ rest_items s o) (comma_on s (to w) c a (gap_byte s (to w) c 44 a n x refl) x)
    ∙ ap (λ l. w ∷ l) (items_between s a j us t ok.1)

-- nothing is read behind white space before a closing bracket
none_here : (s : List ℕ) (i c b j : ℕ) → Ws s i c → Byte s c b j → white b ≡ false → (b ≡ 93) ⊎ (b ≡ 125) → value_at s i ≡ None
none_here s i c b j w x e o = value_at_gap s i ∙ ap (value_at s) (gap_byte s i c b j w x e) ∙ no_value s c b x.inside x.is o

-- the items of an array that is spelled
array_items : (s : List ℕ) (p j : ℕ) (vs : Items) → Spells s (v.array p j vs) → Allowed (limits false) 0 (v.array p j vs) → listed_items vs ≡ items_from s (p + 1)
array_items s p j vs (g.no_items {a = a} {b = b} x w y) ok = sym (ap (items_from s) (sym x.next) ∙ items_none s a (ap (option_map (item_step s)) (none_here s a b 93 j w y refl (inl refl))))
array_items s p j vs (g.array {a = a} x t) ok = sym (ap (items_from s) (sym x.next) ∙ items_between s a j vs t ok.1)

-- a member behind which white space stands, and then the byte b
member_here : (s : List ℕ) (i q c d e f b a : ℕ) (n : List ℕ) (w : Value) → Ws s i q → Quoted s q c n → Ws s c d → Byte s d 58 e → Ws s e (from w) → Spells s w → Allowed (limits false) 1 w → Ws s (to w) f → Byte s f b a → stopper b ≡ true → member_at s i ≡ Some (member_step s q n w)
member_here s i q c d e f b a n w m u k x l h ok r y o =
    ap (member_of s) (read_string s i q c n m u)
    ∙ ap (λ z. cond (byte_is s z 58) (option_map (member_step s q n) (value_at s (z + 1))) None) (gap_byte s c d 58 e k x refl)
    ∙ cond-true (byte_is s d 58) (option_map (member_step s q n) (value_at s (d + 1))) None (is_byte s d 58 e x)
    ∙ ap (λ z. option_map (member_step s q n) (value_at s z)) (sym x.next)
    ∙ ap (option_map (member_step s q n)) (read_at s e w l h (shallower false 1 0 w (omega arith) ok) (stops_at s (to w) f b a r y o))

-- the members between two braces
members_between : (s : List ℕ) (i j : ℕ) (before ms : Members) → Fields s i j ms → AllowedMembers (limits false) 1 before ms → members_from s i ≡ listed ms
members_between s i j before ms (last_field {q = q} {c = c} {d = d} {e = e} {f = f} {n = n} {w = w} m u k x l h r y) ok =
    members_more s i (member_step s q n w) (member_here s i q c d e f 125 j n w m u k x l h ok.1 r y refl)
    ∙ ap (λ o. record { at = q; name = n; value = w } ∷ rest_members s o) (comma_off s (to w) f 125 j (gap_byte s (to w) f 125 j r y refl) y refl)
members_between s i j before ms (more_fields {q = q} {c = c} {d = d} {e = e} {f = f} {a = a} {n = n} {w = w} {ms = os} m u k x l h r y t) ok =
    members_more s i (member_step s q n w) (member_here s i q c d e f 44 a n w m u k x l h ok.1 r y refl)
    ∙ ap (λ o. record { at = q; name = n; value = w } ∷ rest_members s o) (comma_on s (to w) f a (gap_byte s (to w) f 44 a r y refl) y)
    ∙ ap (λ o. record { at = q; name = n; value = w } ∷ o) (members_between s a j (v.more_members before q n w) os t ok.2)

-- the members of an object that is spelled
object_members : (s : List ℕ) (p j : ℕ) (ms : Members) → Spells s (v.object p j ms) → Allowed (limits false) 0 (v.object p j ms) → listed ms ≡ members_from s (p + 1)
object_members s p j ms (g.no_members {a = a} {b = b} x w y) ok = sym (ap (members_from s) (sym x.next) ∙ members_none s a (ap (member_of s) (none_here s a b 125 j w y refl (inr refl))))
object_members s p j ms (g.object {a = a} x t) ok = sym (ap (members_from s) (sym x.next) ∙ members_between s a j v.end ms t ok.1)

-- the value of a whole text is read at the place 0
whole_text : (s : List ℕ) (v : Value) → reading s ≡ Ok v → value_at s 0 ≡ Some v
unfolding reading
whole_text s v = long (ltb longest (length s))
  where
    -- behind the value nothing comes but white space
    behind : (w : Value) → length s ≤ gap s (to w) → Stops s (to w)
    behind w h l =
        ⊎_elim (λ e. rw e)
        (λ e. absurd (omega (arith, gap_solid s (to w) l e)))
        (cases_Bool (white (get_or s (to w) 0)))

    found : (w : Value) → run (limits true) s 0 start ≡ whole w → length s ≤ gap s (to w) → value_at s 0 ≡ Some w
    found w e h = let p = sound (limits true) s 0 w e in read_at s 0 w p.0 p.1 (limits_less 0 w p.2) (behind w h)

    rest : (w : Value) (b : Bool) → ltb (gap s (to w)) (length s) ≡ b → run (limits true) s 0 start ≡ whole w → cond b (Err (malformed (gap s (to w)))) (Ok w) ≡ Ok v → value_at s 0 ≡ Some v
    rest w true d e c = let z : ◌≡◌ {A = ℕ} 0 1 = cc in absurd (omega arith)
    rest w false d e c = found w e (ltb-false (gap s (to w)) (length s) d) ∙ (let q : w ≡ v = cc in ap Some q)

    came : (o : Outcome) → run (limits true) s 0 start ≡ o → alone s o ≡ Ok v → value_at s 0 ≡ Some v
    came (whole w) e c = rest w (ltb (gap s (to w)) (length s)) refl e c
    came (fault f) e c = let z : ◌≡◌ {A = ℕ} 0 1 = cc in absurd (omega arith)

    long : (b : Bool) → cond b (Err too_long) (alone s (run (limits true) s 0 start)) ≡ Ok v → value_at s 0 ≡ Some v
    long true c = let z : ◌≡◌ {A = ℕ} 0 1 = cc in absurd (omega arith)
    long false c = came (run (limits true) s 0 start) refl c

pub walks : Walks
walks s =
    record {
      items = λ i p j vs e. let q = sound (limits false) s i (v.array p j vs) (came_to s i (v.array p j vs) e) in array_items s p j vs q.1 q.2;
      members = λ i p j ms e. let q = sound (limits false) s i (v.object p j ms) (came_to s i (v.object p j ms) e) in object_members s p j ms q.1 q.2;
      again = read_again s;
      outermost = whole_text s;
    }

-- the bytes of a string and of a number, by their places
pub string_bytes : (s : List ℕ) (i p j : ℕ) (n : List ℕ) → value_at s i ≡ Some (v.string p j n) → n ≡ between (p + 1) (j - 1) s
string_bytes s i p j n e = by (sound (limits false) s i (v.string p j n) (came_to s i (v.string p j n) e)).1
  where
    by : Spells s (v.string p j n) → n ≡ between (p + 1) (j - 1) s
    by (g.string q) = let c : q.close ≡ j - 1 = omega arith in q.bytes ∙ ap (λ a. between a q.close s) q.opens.next ∙ ap (λ b. between (p + 1) b s) c

pub string_end : (s : List ℕ) (i p j : ℕ) (n : List ℕ) → value_at s i ≡ Some (v.string p j n) → j ≡ p + length n + 2
string_end s i p j n e = by (sound (limits false) s i (v.string p j n) (came_to s i (v.string p j n) e)).1
  where
    by : Spells s (v.string p j n) → j ≡ p + length n + 2
    by (g.string q) =
        let o = chars_order q.chars (omega arith) in
        let l : length n ≡ q.close - q.inner = ap length q.bytes ∙ length-between s q.inner q.close o.1 in
        omega arith

pub number_bytes : (s : List ℕ) (i p j : ℕ) (n : List ℕ) → value_at s i ≡ Some (v.number p j n) → n ≡ between p j s
number_bytes s i p j n e = by (sound (limits false) s i (v.number p j n) (came_to s i (v.number p j n) e)).1
  where
    by : Spells s (v.number p j n) → n ≡ between p j s
    by (g.number h d) = d

-- the bytes of a member's name, by its place and its length
pub member_name : (s : List ℕ) (i : ℕ) (t : Step Member) → member_at s i ≡ Some t → t.here.name ≡ between (t.here.at + 1) (t.here.at + length t.here.name + 2 - 1) s
member_name s i t e =
    let m = member_made s i t e in
    string_bytes s i t.here.at m.close t.here.name m.name_read
    ∙ ap (λ c. between (t.here.at + 1) (c - 1) s) (string_end s i t.here.at m.close t.here.name m.name_read)
