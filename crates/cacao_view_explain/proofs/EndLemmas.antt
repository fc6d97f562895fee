-- What is told by how playbooks were judged, or their texts were read.
use Rattle.std.proofs.Common.{◌≡◌, ◌⊎◌, inl, inr, ◌∙◌, refl, sym, ap, subst, List, [], Result, Ok, Err}
use Rattle.serde_json.specs.Data.{Data}
use Rattle.cacao_check.specs.FirstBreak.{IsAccepted, IsFirstBreak}
use Rattle.cacao_check.specs.declared.breaks.Break.{Break}
use Rattle.cacao_check.specs.declared.breaks.Mode.TheVariants.{Read}
use Rattle.cacao_cli_ends.specs.Ends.{End, accepted, no_memory, refused, status_of}
use Rattle.cacao_cli_ends.specs.Files.{NamedText}
use Rattle.cacao_cli_ends.specs.Work.{trees_of}
use Rattle.cacao_cli_looks.specs.Command.{IsJudgement}
use Rattle.cacao_view_words.specs.Texts.{Text}
use Rattle.cacao_view_explain.specs.Explains.{Explains, ExplainsOf, ExplainsTrees}
use Rattle.cacao_view_explain.specs.Tells.{Tells, TellsBroken, TellsOf, TellsUnread, first_unread}
use Rattle.cacao_view_explain.proofs.PlainLemmas.{none_plain, trees_plain, unread_plain}

-- ---- memory was wanted

none_explained : (read : Result (List Data) End) → ExplainsOf read [] no_memory
none_explained (Ok roots) = inr (inr (refl, refl))
none_explained (Err why) = inr (refl, refl)

none_told : (read : Result (List Data) End) (texts : List NamedText) → TellsOf read texts [] no_memory
none_told (Ok roots) texts = λ broken e. absurd (let wrong : no_memory ≡ refused broken = e in cc)
none_told (Err why) texts = inr refl

pub wanting_explains : (texts : List NamedText) (lines : List Text) (end : End) → lines ≡ [] → end ≡ no_memory → Explains texts lines end
wanting_explains texts lines end none is =
    subst (λ (l : List Text). Explains texts l end) (sym none) (subst (λ (e : End). Explains texts [] e) (sym is) (none_explained (trees_of texts)))

pub wanting_tells : (texts : List NamedText) (lines : List Text) (end : End) → lines ≡ [] → end ≡ no_memory → Tells texts lines end
wanting_tells texts lines end none is =
    (subst (λ (l : List Text). TellsOf (trees_of texts) texts l end) (sym none) (subst (λ (e : End). TellsOf (trees_of texts) texts [] e) (sym is) (none_told (trees_of texts) texts)), none_plain texts lines none)

-- ---- judged playbooks

pub wanting_trees : (roots : List Data) (lines : List Text) (end : End) → lines ≡ [] → end ≡ no_memory → ExplainsTrees roots lines end
wanting_trees roots lines end none is = inr (inr (none, is))

-- no break is told where nothing is refused
pub none_refused : (roots : List Data) (texts : List NamedText) (lines : List Text) (end other : End) → end ≡ other → ((broken : Break) → other ≡ refused broken → ⊥) → TellsOf (Ok roots) texts lines end
none_refused roots texts lines end other is apart = λ broken e. absurd (apart broken (sym is ∙ e))

pub accepted_apart : (broken : Break) → accepted ≡ refused broken → ⊥
accepted_apart broken e = cc

pub wanting_apart : (broken : Break) → no_memory ≡ refused broken → ⊥
wanting_apart broken e = cc

accepted_is : (roots : List Data) → IsJudgement roots Read accepted → IsAccepted roots Read
accepted_is roots (inl h) = h.0
accepted_is roots (inr (inl w)) = absurd (let wrong : accepted ≡ refused w.0 = w.2 in cc)
accepted_is roots (inr (inr e)) = absurd (let wrong : accepted ≡ no_memory = e in cc)

pub accepted_explains : (roots : List Data) (lines : List Text) (end : End) → IsJudgement roots Read accepted → lines ≡ [] → end ≡ accepted → ExplainsTrees roots lines end
accepted_explains roots lines end judged none is = inl (accepted_is roots judged, none, is)

broken_is : (roots : List Data) (broken : Break) → IsJudgement roots Read (refused broken) → IsFirstBreak roots Read broken
broken_is roots broken (inl h) = absurd (let wrong : refused broken ≡ accepted = h.1 in cc)
broken_is roots broken (inr (inl w)) = let same : w.0 ≡ broken = (let e : refused broken ≡ refused w.0 = w.2 in cc) in subst (λ (b : Break). IsFirstBreak roots Read b) same w.1
broken_is roots broken (inr (inr e)) = absurd (let wrong : refused broken ≡ no_memory = e in cc)

pub broken_explains : (roots : List Data) (texts : List NamedText) (broken : Break) (lines : List Text) → IsJudgement roots Read (refused broken) → TellsBroken texts roots broken lines
    → ExplainsTrees roots lines (refused broken)
broken_explains roots texts broken lines judged tells = inr (inl (record {
  broken = broken;
  first = broken_is roots broken judged;
  ends = refl;
  tells = record { at_fault = tells.fault; are = tells.are };
}))

pub broken_tells : (roots : List Data) (texts : List NamedText) (broken : Break) (lines : List Text) → TellsBroken texts roots broken lines → TellsOf (Ok roots) texts lines (refused broken)
broken_tells roots texts broken lines tells = λ other e.
    let same : broken ≡ other = (let is : refused broken ≡ refused other = e in cc) in subst (λ (b : Break). TellsBroken texts roots b lines) same tells

-- ---- texts that did not all give a tree

-- why: the end is no want of memory
pub why_is : (texts : List NamedText) (end : End) → (trees_of texts ≡ Err end) ⊎ (end ≡ no_memory) → (status_of end ≡ 10 → ⊥) → trees_of texts ≡ Err end
why_is texts end (inl e) other = e
why_is texts end (inr e) other = absurd (other (ap status_of e))

pub unread_explains : (texts : List NamedText) (lines : List Text) (end : End) → trees_of texts ≡ Err end → Explains texts lines end
unread_explains texts lines end e = subst (λ (r : Result (List Data) End). ExplainsOf r lines end) (sym e) (inl refl)

pub unread_tells : (texts : List NamedText) (lines : List Text) (end : End) → trees_of texts ≡ Err end → TellsUnread (first_unread texts) lines → Tells texts lines end
unread_tells texts lines end e tells =
    (subst (λ (r : Result (List Data) End). TellsOf r texts lines end) (sym e) (inl tells), unread_plain texts lines tells)

-- ---- texts of which each gives a tree

pub trees_tell : (texts : List NamedText) (roots : List Data) (lines : List Text) (end : End) → trees_of texts ≡ Ok roots → ExplainsTrees roots lines end → TellsOf (Ok roots) texts lines end → Tells texts lines end
trees_tell texts roots lines end e explains tells =
    (subst (λ (r : Result (List Data) End). TellsOf r texts lines end) (sym e) tells, trees_plain texts roots lines end explains tells)
