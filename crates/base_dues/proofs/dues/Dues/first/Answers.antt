use Rattle.std.proofs.Common.{◌≡◌, Some, None, subst, sym, ◌∙◌}
use Rattle.std.specs.Prelude.{slice_get}
use Rattle.base_dues.specs.Pairs.{Queue, at, IsFirstBy}
use Rattle.base_dues.proofs.LeastLemmas.{kept_least, first_none, first_found, first_some}
use Rattle.base_dues.proofs.dues.Dues.first.Goals as goal

pub returns-in_err-moment : goal.returns-in_err-moment
returns-in_err-moment c =
    let top = c.in_err-moment.ensures in
    c.from_residual.ensures
    ∙ sym (subst (λ (q : Queue). slice_get q.pairs 0 ≡ None) c.self.view_is (first_none c.self.inside.moments (kept_least c.self.inside.moments c.self.inside.low c.self.inside.middle c.self.inside.high c.self.inside.count None c.self.invariant top)))

pub returns-in_err-number : goal.returns-in_err-number
returns-in_err-number c =
    let moment = c.in_ok-moment.moment in
    let top = c.in_ok-moment.ensures in
    let none = subst (λ (q : Queue). IsFirstBy moment (at q.pairs) None) (sym c.self.view_is) c.in_err-number.ensures.each in
    absurd (first_found c.self.inside.moments moment (kept_least c.self.inside.moments c.self.inside.low c.self.inside.middle c.self.inside.high c.self.inside.count (Some moment) c.self.invariant top) none)

pub returns : goal.returns
returns c =
    let moment = c.in_ok-moment.moment in
    let number = c.in_ok-number.number in
    let top = c.in_ok-moment.ensures in
    let found = subst (λ (q : Queue). IsFirstBy moment (at q.pairs) (Some number)) (sym c.self.view_is) c.in_ok-number.ensures.each in
    sym (subst (λ (q : Queue). slice_get q.pairs 0 ≡ Some (moment, number)) c.self.view_is
    (first_some c.self.inside.moments moment number (kept_least c.self.inside.moments c.self.inside.low c.self.inside.middle c.self.inside.high c.self.inside.count (Some moment) c.self.invariant top) found))
