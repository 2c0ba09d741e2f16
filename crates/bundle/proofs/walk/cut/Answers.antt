use Rattle.std.proofs.Common.{◌≡◌, ℕ, ◌+◌, List, [], ◌∷◌, ◌++◌, length, None, Some, sym, ap, ◌∙◌, inr, arith, rules}
use Rattle.names.specs.declared.span.Span.{Span}
use Rattle.bundle.specs.Layout.{path_size, path_of, path_fault, body_fault}
use Rattle.bundle.specs.Rows.{body_after, behind_body, body_fault_after, row_from, EndsAt}
use Rattle.bundle.proofs.Parts.{path_none, length_path, fault_behind, body_behind, rest_behind}
use Rattle.bundle.proofs.walk.cut.Goals as goal
use Rattle.bundle.proofs.walk.cut.Goals.{After-push}

pub overflow_cast-place-2 : goal.overflow_cast-place-2
overflow_cast-place-2 c =
    let r = c.args.bytes.now in
    let path = c.in_ok-path.ensures.ok in
    omega (arith, ap length path.1, length_path r path.0, (path_none r path.0).0)

-- the place that is noted
noted : (r path : List ℕ) (p : ℕ) (old new : List Span) → path_fault r ≡ None → path ≡ path_of r
    → new ≡ old ++ record { start = p; end = p + 1 + length path } ∷ [] → new ≡ old ++ row_from r p ∷ []
noted r path p old new fine is e =
    let end : p + 1 + length path ≡ p + (1 + path_size r) = omega (arith, ap length is, length_path r fine) in
    e ∙ ap (λ (k : ℕ). old ++ record { start = p; end = k } ∷ []) end

pub returns-in_err-body-clause-err : goal.returns-in_err-body-clause-err
returns-in_err-body-clause-err c =
    let r = c.args.bytes.now in
    let path = c.in_ok-path.ensures.ok in
    let fault : body_fault r ≡ Some c.in_err-body.field-0.0 =
    sym (fault_behind r (path_none r path.0).0) ∙ ap body_fault_after (sym path.2) ∙ c.in_err-body.ensures.err in
    let ends : EndsAt r c.args.place c.args.paths.now.items c.push.new.self.items c.in_err-body.field-0.0 =
    inr (path.0, fault, noted r _ c.args.place _ _ path.0 path.1 c.push.ensures.items) in
    search rules

pub returns-clause-ok : goal.returns-clause-ok
returns-clause-ok c =
    let r = c.args.bytes.now in
    let path = c.in_ok-path.ensures.ok in
    let body = c.in_ok-body.ensures.ok in
    let whole = (path_none r path.0).0 in
    let content = body.1 ∙ ap body_after path.2 ∙ body_behind r whole in
    record {
      path = path.0;
      body = sym (fault_behind r whole) ∙ ap body_fault_after (sym path.2) ∙ body.0;
      noted = noted r _ c.args.place _ _ path.0 path.1 c.push.ensures.items;
      means = rw (path.1, content);
      rest = body.2 ∙ ap behind_body path.2 ∙ rest_behind r whole;
    }
