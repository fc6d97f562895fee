-- A record leads to one state, and runs go on record by record.
use Rattle.std.proofs.Common.{◌≡◌, true, false, List, [], ◌∷◌, ◌++◌, Option, Some, None, is_some, refl, ap, sym, subst, ◌∙◌}
use Rattle.run_records.specs.declared.record.Record.{Record}
use Rattle.flow_core_rules.specs.State.{State, shown}
use Rattle.flow_core_rules.specs.Edits.{Edit}
use Rattle.flow_core_rules.specs.Changes.{change, moment_of}
use Rattle.flow_core_rules.specs.Runs.{Next, GoesOn, Leads, after, begun, begin_of}
use Rattle.flow_core_rules.specs.Laws.{NextIsOne, EnabledHasNext, RunLeadsToOne, RunsGoOn, IsOneMore}

pub some_inner : {A : Type 0} (a b : A) → Some a ≡ Some b → a ≡ b
some_inner a b h = cc

pub next_is_one : NextIsOne
next_is_one s a b r x y =
    let same : x.edits ≡ y.edits = some_inner x.edits y.edits (sym x.change_is ∙ y.change_is) in
    x.new_is ∙ ap (λ (es : List Edit). after (moment_of r) es s) same ∙ sym y.new_is

pub enabled_has_next : EnabledHasNext
enabled_has_next s r = (to (change (shown s) r) refl, from)
  where
    to : (o : Option (List Edit)) → change (shown s) r ≡ o → is_some o ≡ true → (new : State) × Next s r new
    to None e h = absurd (no h)
      where
        no : false ≡ true → ⊥
        no g = cc
    to (Some edits) e h = (after (moment_of r) edits s, record { edits = edits; change_is = e; new_is = refl })

    from : ((new : State) × Next s r new) → is_some (change (shown s) r) ≡ true
    from p = let n : Next s r p.0 = p.1 in ap is_some n.change_is

pub goes_on_one : (rs : List Record) (s a b : State) → GoesOn s rs a → GoesOn s rs b → a ≡ b
goes_on_one [] s a b x y = sym x ∙ y
goes_on_one (r ∷ rs) s a b x y =
    goes_on_one rs y.0 a b (subst (λ z. GoesOn z rs a) (next_is_one s x.0 y.0 r x.1 y.1) x.2) y.2

pub list_heads : {A : Type 0} (x y : A) (xs ys : List A) → x ∷ xs ≡ y ∷ ys → (x ≡ y) × (xs ≡ ys)
list_heads x y xs ys h = (cc, cc)

pub run_one : RunLeadsToOne
run_one given run records a b x y =
    let both = list_heads (begin_of given run x.now) (begin_of given run y.now) x.others y.others (sym x.records_are ∙ y.records_are) in
    let now : x.now ≡ y.now = ap moment_of both.0 in
    let first : x.first ≡ y.first = some_inner x.first y.first (sym x.begins ∙ ap (begun given run) now ∙ y.begins) in
    let here : GoesOn y.first y.others a = subst (λ rs. GoesOn y.first rs a) both.1 (subst (λ z. GoesOn z x.others a) first x.goes_on) in
    goes_on_one y.others y.first a b here y.goes_on

-- ---- one more record

pub record Split (s : State) (rs : List Record) (r : Record) (new : State) : Type 0 where
  pub mid : State
  pub before : GoesOn s rs mid
  pub last : Next mid r new

pub split : (rs : List Record) (s : State) (r : Record) (new : State) → GoesOn s (rs ++ r ∷ []) new → Split s rs r new
split [] s r new g = record { mid = s; before = refl; last = subst (λ z. Next s r z) g.2 g.1 }
split (x ∷ rs) s r new g =
    let rest : Split g.0 rs r new = split rs g.0 r new g.2 in
    record { mid = rest.mid; before = (g.0, g.1, rest.before); last = rest.last }

pub join : (rs : List Record) (s mid new : State) (r : Record) → GoesOn s rs mid → Next mid r new → GoesOn s (rs ++ r ∷ []) new
join [] s mid new r g n = (new, subst (λ z. Next z r new) (sym g) n, refl)
join (x ∷ rs) s mid new r g n = (g.0, g.1, join rs g.0 mid new r g.2 n)

pub runs_go_on : RunsGoOn
runs_go_on given run first others r new = (to, from)
  where
    to : Leads given run (first ∷ others ++ r ∷ []) new → IsOneMore given run (first ∷ others) r new
    to l =
        let both = list_heads first (begin_of given run l.now) (others ++ r ∷ []) l.others l.records_are in
        let parts : Split l.first others r new = split others l.first r new (subst (λ rs. GoesOn l.first rs new) (sym both.1) l.goes_on) in
        record {
          state = parts.mid;
          leads = record { now = l.now; others = others; first = l.first; in_time = l.in_time; records_are = ap (λ (x : Record). x ∷ others) both.0; begins = l.begins; goes_on = parts.before };
          next = parts.last;
        }

    from : IsOneMore given run (first ∷ others) r new → Leads given run (first ∷ others ++ r ∷ []) new
    from m =
        let l : Leads given run (first ∷ others) m.state = m.leads in
        let both = list_heads first (begin_of given run l.now) others l.others l.records_are in
        record {
          now = l.now;
          others = others ++ r ∷ [];
          first = l.first;
          in_time = l.in_time;
          records_are = ap (λ (x : Record). x ∷ (others ++ r ∷ [])) both.0;
          begins = l.begins;
          goes_on = join others l.first m.state new r (subst (λ rs. GoesOn l.first rs m.state) (sym both.1) l.goes_on) m.next;
        }
