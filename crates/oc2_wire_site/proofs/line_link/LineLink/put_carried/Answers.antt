use Rattle.std.proofs.Common.{◌∙◌, List, ℕ, refl, subst}
use Rattle.oc2_wire_site.specs.LineLinks.{FailsToSend, SendsAll}
use Rattle.oc2_wire_site.specs.PutEnds.{fails, goes_out, unkept}
use Rattle.oc2_wire_site.specs.LinesOf.{lines_of}
use Rattle.oc2_wire_site.proofs.line_link.LineLink.put_carried.Goals as goal

pub returns-in_default : goal.returns-in_default
returns-in_default g c = unkept c.requires.carried c.requires.whole refl refl

pub returns-in-Ok-send : goal.returns-in-Ok-send
returns-in-Ok-send g c =
    goes_out c.requires.carried c.requires.whole
    (subst (λ (l : List ℕ). SendsAll l (lines_of g.K.Link.view c.args.self.now) (lines_of g.K.Link.view c.send.new.self)) (c.as_slice.ensures ∙ c.in-Ok.ensures) c.in-Ok-send.ensures.sends)
    c.in-Ok-push.ensures.items

pub returns-in-Ok-push : goal.returns-in-Ok-push
returns-in-Ok-push g c =
    fails c.requires.carried c.requires.whole
    (subst (λ (l : List ℕ). FailsToSend l (lines_of g.K.Link.view c.args.self.now) (lines_of g.K.Link.view c.send.new.self)) (c.as_slice.ensures ∙ c.in-Ok.ensures) c.in-Err-send.ensures.fails)
    c.in-Ok-push.ensures.items

pub returns : goal.returns
returns g c = unkept c.requires.carried c.requires.whole refl c.in-Err.ensures.items
