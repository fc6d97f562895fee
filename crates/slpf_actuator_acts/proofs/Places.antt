-- Where acts stand by run and issue.
use Rattle.std.proofs.Common.{◌≡◌, ◌≢◌, ℕ, suc, ◌+◌, ◌<◌, Bool, true, false, cond, ◌==◌, ◌&&◌, List, [], ◌∷◌, ◌++◌, length, find, Contains, Option, Some, None, refl, sym, subst, ap, ap₂, ◌∙◌, arith, slice_get}
use Rattle.std.specs.Borrow.{Bor}
use Rattle.std.specs.Prelude.{IsSome, get_or, unwrap_or, option_copied, option_map, option_and_then}
use Rattle.std.specs.Option.{option_or}
use Rattle.std.proofs.lemmas.Bool.{and_parts, eqb-true, false_from_ne_true}
use Rattle.std.proofs.lemmas.Bool.Decides.{nat_tests}
use Rattle.std.proofs.lemmas.Option.{none-some, same_Some, slice_get-get_or, slice_get_within, get_or_from_slice_get}
use Rattle.std.proofs.lemmas.List.Elements.{All-nil, All-cons, All-head, All-tail}
use Rattle.run_records.specs.declared.act.Act.{Act}
use Rattle.slpf_actuator_acts.specs.ActLists.{HasActed, IsNew}
use Rattle.slpf_rules_acts.specs.Index.{Places, place_in}
use Rattle.slpf_actuator_acts.specs.History.{ArePlacesOf, is_of, place_of}

-- ---- the place of an act

at_place : (b : Bool) (act : Act) (acts : List Act) (found : Option Act) (place : Option ℕ) → found ≡ option_and_then (slice_get acts) place
    → cond b (Some act) found ≡ option_and_then (slice_get (act ∷ acts)) (cond b (Some 0) (option_map suc place))
at_place true act acts found place h = refl
at_place false act acts found None h = h
at_place false act acts found (Some k) h = h

-- the act that is found stands at its place
pub find_at : (run issue : ℕ) (acts : List Act) → find (is_of run issue) acts ≡ option_and_then (slice_get acts) (place_of run issue acts)
find_at run issue [] = refl
find_at run issue (act ∷ acts) =
    at_place (is_of run issue act) act acts (find (is_of run issue) acts) (place_of run issue acts) (find_at run issue acts)

within_more : (b : Bool) (n : ℕ) (place : Option ℕ) (k : ℕ) → ((j : ℕ) → place ≡ Some j → j < n) → cond b (Some 0) (option_map suc place) ≡ Some k → k < n + 1
within_more true n place k below h = let e : 0 ≡ k = same_Some 0 k h in omega (arith, e)
within_more false n None k below h = absurd (none-some k h)
within_more false n (Some j) k below h = let e : suc j ≡ k = same_Some (suc j) k h in omega (arith, e, below j refl)

pub place_within : (run issue : ℕ) (acts : List Act) (k : ℕ) → place_of run issue acts ≡ Some k → k < length acts
place_within run issue [] k h = absurd (none-some k h)
place_within run issue (act ∷ acts) k h =
    omega (arith, within_more (is_of run issue act) (length acts) (place_of run issue acts) k (place_within run issue acts) h)

push_more : (t b : Bool) (n : ℕ) (place more : Option ℕ) → more ≡ option_or place (cond b (Some n) None)
    → cond t (Some 0) (option_map suc more) ≡ option_or (cond t (Some 0) (option_map suc place)) (cond b (Some (suc n)) None)
push_more true b n place more h = refl
push_more false b n (Some k) more h = ap (option_map suc) h
push_more false true n None more h = ap (option_map suc) h
push_more false false n None more h = ap (option_map suc) h

-- one act more
pub place_push : (run issue : ℕ) (acts : List Act) (act : Act)
    → place_of run issue (acts ++ act ∷ []) ≡ option_or (place_of run issue acts) (cond (is_of run issue act) (Some (length acts)) None)
place_push run issue [] act = refl
place_push run issue (a ∷ acts) act =
    push_more (is_of run issue a) (is_of run issue act) (length acts) (place_of run issue acts) (place_of run issue (acts ++ act ∷ [])) (place_push run issue acts act)

-- ---- acts of other runs and issues

not_of : (run issue : ℕ) (act : Act) → (act.run ≡ run → act.issue ≢ issue) → is_of run issue act ≡ false
not_of run issue act other = false_from_ne_true (is_of run issue act) (λ e.
    let both = and_parts (act.run == run) (act.issue == issue) e in
    other (eqb-true act.run run both.0) (eqb-true act.issue issue both.1))

pub place_none : (run issue : ℕ) (acts : List Act) → IsNew acts run issue → place_of run issue acts ≡ None
place_none run issue [] is_new = refl
place_none run issue (act ∷ acts) is_new =
    let other : (act.run ≡ run → act.issue ≢ issue) = All-head (λ (a : Act). a.run ≡ run → a.issue ≢ issue) act acts is_new in
    let others : IsNew acts run issue = All-tail (λ (a : Act). a.run ≡ run → a.issue ≢ issue) act acts is_new in
    ap₂ (λ (b : Bool) (o : Option ℕ). cond b (Some 0) (option_map suc o)) (not_of run issue act other) (place_none run issue acts others)

pub new_finds_none : (run issue : ℕ) (acts : List Act) → IsNew acts run issue → find (is_of run issue) acts ≡ None
new_finds_none run issue acts is_new = find_at run issue acts ∙ ap (option_and_then (slice_get acts)) (place_none run issue acts is_new)

both_equal : (a b : ℕ) → a ≡ b → (a == b) ≡ true
both_equal a b e = grind (arith, nat_tests)

is_of_itself : (run issue : ℕ) (act : Act) → act.run ≡ run → act.issue ≡ issue → is_of run issue act ≡ true
is_of_itself run issue act p q = ap₂ (λ (a b : Bool). a && b) (both_equal act.run run p) (both_equal act.issue issue q)

some_or_none : (b : Bool) (act : Act) (found : Option Act) → cond b (Some act) found ≡ None → (b ≡ false) × (found ≡ None)
some_or_none true act found h = absurd (none-some act (sym h))
some_or_none false act found h = (refl, h)

pub find_none : (run issue : ℕ) (acts : List Act) → find (is_of run issue) acts ≡ None → IsNew acts run issue
find_none run issue [] h = All-nil (λ (a : Act). a.run ≡ run → a.issue ≢ issue)
find_none run issue (act ∷ acts) h =
    let parts = some_or_none (is_of run issue act) act (find (is_of run issue) acts) h in
    All-cons (λ (a : Act). a.run ≡ run → a.issue ≢ issue) act acts
    (λ p q. let e : true ≡ false = sym (is_of_itself run issue act p q) ∙ parts.0 in cc)
    (find_none run issue acts parts.1)

found_or : (run issue : ℕ) (b : Bool) (act : Act) (found : Option Act) (x : Act) → is_of run issue act ≡ b → (found ≡ Some x → is_of run issue x ≡ true)
    → cond b (Some act) found ≡ Some x → is_of run issue x ≡ true
found_or run issue true act found x is ih h = subst (λ (a : Act). is_of run issue a ≡ true) (same_Some act x h) is
found_or run issue false act found x is ih h = ih h

found_of : (run issue : ℕ) (acts : List Act) (x : Act) → find (is_of run issue) acts ≡ Some x → is_of run issue x ≡ true
found_of run issue [] x h = absurd (none-some x h)
found_of run issue (act ∷ acts) x h = found_or run issue (is_of run issue act) act (find (is_of run issue) acts) x refl (found_of run issue acts x) h

stands_at : (acts : List Act) (x : Act) (place : Option ℕ) → option_and_then (slice_get acts) place ≡ Some x → Contains acts x
stands_at acts x None h = absurd (none-some x h)
stands_at acts x (Some k) h = (k, slice_get_within acts k x h, get_or_from_slice_get acts k x x h)

pub find_some : (run issue : ℕ) (acts : List Act) (x : Act) → find (is_of run issue) acts ≡ Some x → HasActed acts run issue x
find_some run issue acts x h =
    let both = and_parts (x.run == run) (x.issue == issue) (found_of run issue acts x h) in
    record {
      has = stands_at acts x (place_of run issue acts) (sym (find_at run issue acts) ∙ h);
      of_run = eqb-true x.run run both.0;
      of_issue = eqb-true x.issue issue both.1;
    }

-- ---- the index

put_last : (b : Bool) (n : ℕ) (place : Option ℕ) → (b ≡ true → place ≡ None) → cond b (Some n) place ≡ option_or place (cond b (Some n) None)
put_last true n place none = ap (λ (o : Option ℕ). option_or o (Some n)) (sym (none refl))
put_last false n None none = refl
put_last false n (Some k) none = refl

no_place : (run issue : ℕ) (acts : List Act) (act : Act) → IsNew acts act.run act.issue → is_of run issue act ≡ true → place_of run issue acts ≡ None
no_place run issue acts act is_new e =
    let both = and_parts (act.run == run) (act.issue == issue) e in
    place_none run issue acts (subst (λ i. IsNew acts run i) (eqb-true act.issue issue both.1) (subst (λ r. IsNew acts r act.issue) (eqb-true act.run run both.0) is_new))

-- the place of an act that was added is kept
pub index_push : (acts : List Act) (act : Act) (old new : Places) → IsNew acts act.run act.issue → ArePlacesOf acts old
    → ((r i : ℕ) → place_in new r i ≡ cond (act.run == r && act.issue == i) (Some (length acts)) (place_in old r i)) → ArePlacesOf (acts ++ act ∷ []) new
index_push acts act old new is_new was now = λ r i.
    now r i ∙ ap (λ (o : Option ℕ). cond (is_of r i act) (Some (length acts)) o) (was r i)
    ∙ put_last (is_of r i act) (length acts) (place_of r i acts) (no_place r i acts act is_new) ∙ sym (place_push r i acts act)

taken_out : (b : Bool) (n : ℕ) (place : Option ℕ) → (b ≡ true → place ≡ None) → cond b None (cond b (Some n) place) ≡ place
taken_out true n place none = sym (none refl)
taken_out false n place none = refl

-- and one that was kept and forgotten leaves all as it was
pub index_back : (acts : List Act) (act : Act) (old mid new : Places) → IsNew acts act.run act.issue → ArePlacesOf acts old
    → ((r i : ℕ) → place_in mid r i ≡ cond (act.run == r && act.issue == i) (Some (length acts)) (place_in old r i))
    → ((r i : ℕ) → place_in new r i ≡ cond (act.run == r && act.issue == i) None (place_in mid r i)) → ArePlacesOf acts new
index_back acts act old mid new is_new was then now = λ r i.
    now r i ∙ ap (λ (o : Option ℕ). cond (is_of r i act) None o) (then r i ∙ ap (λ (o : Option ℕ). cond (is_of r i act) (Some (length acts)) o) (was r i))
    ∙ taken_out (is_of r i act) (length acts) (place_of r i acts) (no_place r i acts act is_new)

-- what `get` finds at a place within a list
pub got_at : (found : Option (Bor Act)) (acts : List Act) (k : ℕ) → k < length acts → (k < length acts → IsSome found)
    → ((d : Act) → unwrap_or (option_copied found) d ≡ get_or acts k d) → option_copied found ≡ slice_get acts k
got_at None acts k within some is = let e : false ≡ true = some within in cc
got_at (Some x) acts k within some is = ap (λ (a : Act). Some a) (is x.now) ∙ sym (slice_get-get_or acts k x.now within)
