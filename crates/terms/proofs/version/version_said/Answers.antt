use Rattle.std.proofs.Common.{◌≡◌, [], ◌∷◌, rules, tests}
use Rattle.requirement.specs.Words.{parts}
use Rattle.terms.proofs.Versions.{all_left, left, next_piece}
use Rattle.terms.proofs.version.version_said.Goals as goal

pub returns-in-Some-Some-None-default : goal.returns-in-Some-Some-None-default
returns-in-Some-Some-None-default c =
    let p1 = rw c.in-Some-Some-None-default.is-0 at (next_piece _ c.split-parts.result c.next.new.self c.next.result c.next.ensures.steps (λ x b q k. search (rules, tests))) in
    let p2 = rw c.in-Some-Some-None-default.is-1 at (next_piece _ c.next.new.self c.next-2.new.self c.next-2.result c.next-2.ensures.steps (λ x b q k. search (rules, tests))) in
    let p3 = rw c.in-Some-Some-None-default.is-2 at (next_piece _ c.next-2.new.self c.next-3.new.self c.next-3.result c.next-3.ensures.steps (λ x b q k. search (rules, tests))) in
    let start = all_left c.split-parts.result c.args.bytes.now c.split-parts.ensures.rest c.split-parts.ensures.done in
    let said : parts c.args.bytes.now ≡ c.in-Some-Some-None-default.major.now ∷ (c.in-Some-Some-None-default.minor.now ∷ []) = cc in
    rw said cc

pub returns-in-Some-Some-Some-None : goal.returns-in-Some-Some-Some-None
returns-in-Some-Some-Some-None c =
    let p1 = rw c.in-Some-Some-Some-None.is-0 at (next_piece _ c.split-parts.result c.next.new.self c.next.result c.next.ensures.steps (λ x b q k. search (rules, tests))) in
    let p2 = rw c.in-Some-Some-Some-None.is-1 at (next_piece _ c.next.new.self c.next-2.new.self c.next-2.result c.next-2.ensures.steps (λ x b q k. search (rules, tests))) in
    let p3 = rw c.in-Some-Some-Some-None.is-2 at (next_piece _ c.next-2.new.self c.next-3.new.self c.next-3.result c.next-3.ensures.steps (λ x b q k. search (rules, tests))) in
    let p4 = rw c.in-Some-Some-Some-None.is-3 at (next_piece _ c.next-3.new.self c.next-4.new.self c.next-4.result c.next-4.ensures.steps (λ x b q k. search (rules, tests))) in
    let start = all_left c.split-parts.result c.args.bytes.now c.split-parts.ensures.rest c.split-parts.ensures.done in
    let said : parts c.args.bytes.now ≡ c.in-Some-Some-Some-None.major.now ∷ (c.in-Some-Some-Some-None.minor.now ∷ (c.in-Some-Some-Some-None.patch.now ∷ [])) = cc in
    rw said cc

pub returns-in_default : goal.returns-in_default
returns-in_default c =
    let p1 = rw c.in_default.is-0 at (next_piece _ c.split-parts.result c.next.new.self c.next.result c.next.ensures.steps (λ x b q k. search (rules, tests))) in
    let p2 = rw c.in_default.is-1 at (next_piece _ c.next.new.self c.next-2.new.self c.next-2.result c.next-2.ensures.steps (λ x b q k. search (rules, tests))) in
    let p3 = rw c.in_default.is-2 at (next_piece _ c.next-2.new.self c.next-3.new.self c.next-3.result c.next-3.ensures.steps (λ x b q k. search (rules, tests))) in
    let p4 = rw c.in_default.is-3 at (next_piece _ c.next-3.new.self c.next-4.new.self c.next-4.result c.next-4.ensures.steps (λ x b q k. search (rules, tests))) in
    let start = all_left c.split-parts.result c.args.bytes.now c.split-parts.ensures.rest c.split-parts.ensures.done in
    let said : parts c.args.bytes.now ≡ c.in_default.field-0-0.now ∷ (c.in_default.field-0-1.now ∷ (c.in_default.field-0-2.now ∷ (c.in_default.field-0-3.now ∷ left c.next-4.new.self))) = cc in
    rw said

pub returns-in_default-2 : goal.returns-in_default-2
returns-in_default-2 c =
    let p1 = rw c.in_default.is-0 at (next_piece _ c.split-parts.result c.next.new.self c.next.result c.next.ensures.steps (λ x b q k. search (rules, tests))) in
    let p2 = rw c.in_default.is-1 at (next_piece _ c.next.new.self c.next-2.new.self c.next-2.result c.next-2.ensures.steps (λ x b q k. search (rules, tests))) in
    let start = all_left c.split-parts.result c.args.bytes.now c.split-parts.ensures.rest c.split-parts.ensures.done in
    let said : parts c.args.bytes.now ≡ c.in_default.field-0-0.now ∷ [] = cc in
    rw said
