-- Names in order: by the bytes between their quotes, then by their opening quotes, then by their closing ones.
use Rattle.std.specs.Prelude.{ℕ, List, Option, Some, None, cond, nat_le}
use Rattle.std.specs.List.Sorted.{IsSorted}
use Rattle.std.specs.Cmp.Lexicographic.{slice_cmp}
use Rattle.std.specs.Ordering.{nat_cmp, ordering_then}
use Rattle.std.specs.declared.cmp.Ordering.{Ordering}
use Rattle.names.specs.declared.span.Span.{Span}
use Rattle.names.specs.Repeats.{bytes_of}

abbrev pub span_cmp : List ℕ → Span → Span → Ordering
span_cmp s a b = ordering_then (ordering_then (slice_cmp nat_cmp (bytes_of s a) (bytes_of s b)) (nat_cmp a.start b.start)) (nat_cmp a.end b.end)

abbrev pub IsInOrder : List ℕ → List Span → Type 0
IsInOrder s ns = IsSorted (span_cmp s) ns

-- the one that ends first
abbrev pub sooner : Option Span → Span → Span
sooner None n = n
sooner (Some f) n = cond (nat_le f.end n.end) f n
