use Rattle.std.proofs.Common.{rules, subst}
use Rattle.std.proofs.lemmas.Fn.{always_returns_same}
use Rattle.std.proofs.lemmas.List.Sorted.{IsPermutation-trans}
use Rattle.std.specs.Ordering.{is_lt}
use Rattle.std.specs.List.Sorted.{IsPermutation}
use Rattle.names.specs.Order.{span_cmp}
use Rattle.names.proofs.Sorted.{span_ranks}
use Rattle.names.proofs.put_in_order.Goals as goal
use Rattle.names.proofs.put_in_order.Goals.{then-not-is_sorted_by, else-not-is_sorted_by}

pub returns-clause-rows : goal.returns-clause-rows
returns-clause-rows c =
    let end = c.sort_unstable_by.new.self in
    elim c.if-not-is_sorted_by.branch [
      | then-not-is_sorted_by w ↦ IsPermutation-trans _ _ _ w.sort.ensures.rows (subst (λ l. IsPermutation l end) w.names-is c.sort_unstable_by.ensures.permutation)
      | else-not-is_sorted_by w ↦ subst (λ l. IsPermutation l end) w.names-is c.sort_unstable_by.ensures.permutation
    ]

pub returns-clause-sorted : goal.returns-clause-sorted
returns-clause-sorted c =
    c.sort_unstable_by.ensures.sorted (λ a b. is_lt (span_cmp c.args.text.now a b)) (span_ranks c.args.text.now) (always_returns_same _ _ _ (λ a r f h. search rules))
