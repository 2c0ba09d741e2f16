use Rattle.std.proofs.Common.{sym, ap, ◌∙◌, arith}
use Rattle.store.specs.Paths.{lawful_path}
use Rattle.bundle.proofs.Parts.{path_cut, path_fine, path_unlawful, split_cut, split_whole, split_path_of, split_behind}
use Rattle.bundle.proofs.records.split_path.Goals as goal
use Rattle.bundle.proofs.records.split_path.Goals.{In-Some-split_at_checked}

pub returns-in_default-clause-err : goal.returns-in_default-clause-err
returns-in_default-clause-err c = path_cut c.args.bytes.now (omega (arith, c.in_default.ensures.cases))

pub returns-in_default-split_at_checked-clause-err : goal.returns-in_default-split_at_checked-clause-err
returns-in_default-split_at_checked-clause-err c =
    split_cut c.args.bytes.now _ _ c.in-Some.ensures.cases.0 c.in_default-split_at_checked.ensures.cases

pub returns-then-is_path-clause-ok : goal.returns-then-is_path-clause-ok
returns-then-is_path-clause-ok c =
    let r = c.args.bytes.now in
    let is = c.in-Some.ensures.cases.0 in
    let cut = c.in-Some-split_at_checked.ensures.cases in
    let path = cut.1 ∙ sym (split_path_of r _ _ is) in
    (path_fine r (split_whole r _ _ is cut.0) (ap lawful_path (sym path) ∙ sym c.if-is_path.ensures), path, cut.2 ∙ sym (split_behind r _ _ is))

pub returns-else-is_path-clause-err : goal.returns-else-is_path-clause-err
returns-else-is_path-clause-err c =
    let r = c.args.bytes.now in
    let is = c.in-Some.ensures.cases.0 in
    let cut = c.in-Some-split_at_checked.ensures.cases in
    let path = cut.1 ∙ sym (split_path_of r _ _ is) in
    path_unlawful r (split_whole r _ _ is cut.0) (ap lawful_path (sym path) ∙ sym c.if-is_path.ensures)
