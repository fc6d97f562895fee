-- Lists, and the parcels that an end sent.
use Rattle.std.proofs.Common.{◌≡◌, ◌⊎◌, inl, inr, ℕ, zero, suc, ◌≤◌, nat_le, Bool, true, false, if◌then◌else◌, List, [], ◌∷◌, ◌++◌, length, refl, sym, ◌∙◌, subst, ap, arith}
use Rattle.std.specs.Prelude.{map, filter, Contains, Some, All}
use Rattle.std.proofs.lemmas.Bool.{leb-true}
use Rattle.std.proofs.lemmas.Bool.Decides.{nat_tests}
use Rattle.std.proofs.lemmas.List.{drop_all, append-nil}
use Rattle.std.proofs.lemmas.List.Elements.{All-contains, All-contains_itself, All-filter, Contains-append_left, filter_passes}
use Rattle.cacao_site.specs.View.{SiteView}
use Rattle.cacao_site.specs.declared.parcel.Parcel.{Parcel}
use Rattle.run_records.specs.declared.record.Record.{Record}
use Rattle.run_records.specs.declared.record.Record.TheVariants.{Begin, Walk, Send, Reply, Expire, Upgrade, Ask, Told}
use Rattle.flow_laws.specs.Images.{IsAgent, told_list, up_to, puts_of, puts_to, session_puts}
use Rattle.flow_laws.specs.Journals.{IsSent, run_of}
use Rattle.flow_laws.proofs.Basics.{in_drop}
use Rattle.oc2_wire_laws.specs.Deliveries.{End, IsNew, put_by, sent_by}

pub all_by : {T : Type 0} (P : T → Type 0) (xs : List T) → ((x : T) → Contains xs x → P x) → All P xs
all_by P xs each = λ k d lt. each _ (All-contains_itself xs k d lt)

pub none_in : {T : Type 0} (P : Type 0) (x : T) → Contains [] x → P
none_in P x has = absurd (omega (arith, has.1))

pub none_left : {T : Type 0} (xs ys : List T) → xs ++ ys ≡ [] → xs ≡ []
none_left [] ys e = refl
none_left (x ∷ xs) ys e = cc

-- what a test keeps of a list is of the list, and passes
pub in_filter : {T : Type 0} (test : T → Bool) (xs : List T) (x : T) → Contains (filter test xs) x → Contains xs x
in_filter test xs x has = All-contains (Contains xs) (filter test xs) x (All-filter test (Contains xs) xs (All-contains_itself xs)) has

pub passes : {T : Type 0} (test : T → Bool) (xs : List T) (x : T) → Contains (filter test xs) x → test x ≡ true
passes {T} test xs x has = All-contains (λ (y : T). test y ≡ true) (filter test xs) x (filter_passes test xs) has

-- ---- the number of a run

pub run_append : (xs ys : List Record) (run : ℕ) → run_of xs ≡ Some run → run_of (xs ++ ys) ≡ Some run
run_append [] ys run e = cc
run_append (Begin a b c d ∷ xs) ys run e = e
run_append (Walk a b ∷ xs) ys run e = cc
run_append (Send a b c d f ∷ xs) ys run e = cc
run_append (Reply a b c d f ∷ xs) ys run e = cc
run_append (Expire a b ∷ xs) ys run e = cc
run_append (Upgrade a b ∷ xs) ys run e = cc
run_append (Ask a b c d ∷ xs) ys run e = cc
run_append (Told a b c d ∷ xs) ys run e = cc

pub run_front : (x : Record) (xs ys : List Record) → run_of (x ∷ xs ++ ys) ≡ run_of (x ∷ xs)
run_front (Begin a b c d) xs ys = refl
run_front (Walk a b) xs ys = refl
run_front (Send a b c d f) xs ys = refl
run_front (Reply a b c d f) xs ys = refl
run_front (Expire a b) xs ys = refl
run_front (Upgrade a b) xs ys = refl
run_front (Ask a b c d) xs ys = refl
run_front (Told a b c d) xs ys = refl

pub sent_append : (xs ys : List Record) (issue agent : ℕ) (bytes : List ℕ) → IsSent xs issue agent bytes → IsSent (xs ++ ys) issue agent bytes
sent_append xs ys issue agent bytes sent = record { task = sent.task; moment = sent.moment; has = Contains-append_left xs ys _ sent.has }

-- ---- what an end put and sent

-- a parcel among entries, with its beat
pub record HasEntry (entries : List (ℕ × Parcel)) (parcel : Parcel) : Type 0 where
  pub at : ℕ
  pub has : Contains entries (at, parcel)

pub entry_of : (entries : List (ℕ × Parcel)) (parcel : Parcel) → Contains (map (λ (put : ℕ × Parcel). put.1) entries) parcel → HasEntry entries parcel
entry_of [] parcel has = none_in _ parcel has
entry_of (e ∷ entries) parcel (zero, lt, is) = record { at = e.0; has = (zero, omega arith, ap (λ (p : Parcel). (e.0, p)) is) }
entry_of (e ∷ entries) parcel (suc k, lt, is) =
    let rest = entry_of entries parcel (k, omega (arith, lt), is) in
    record { at = rest.at; has = (suc rest.has.0, omega (arith, rest.has.1), rest.has.2) }

pub put_entry : (e : End) (parcel : Parcel) → Contains (put_by e) parcel → HasEntry (session_puts (puts_of e.start) e.site e.beat) parcel
put_entry e parcel has = entry_of (session_puts (puts_of e.start) e.site e.beat) parcel has

pub in_puts : (first : ℕ) (site : SiteView) (beat at : ℕ) (parcel : Parcel) → Contains (session_puts first site beat) (at, parcel) → Contains (puts_to site beat) (at, parcel)
in_puts first site beat at parcel has = in_drop first (puts_to site beat) (at, parcel) has

-- ---- nothing was put yet

with_or_without : {T : Type 0} (b : Bool) (x : T) (rest : List T) (n : ℕ) → length rest ≤ n → length (if b then x ∷ rest else rest) ≤ suc n
with_or_without true x rest n le = omega (arith, le)
with_or_without false x rest n le = omega (arith, le)

length_filter : {T : Type 0} (beat : ℕ) (entries : List (ℕ × T)) → length (up_to beat entries) ≤ length entries
length_filter beat [] = omega arith
length_filter beat (e ∷ entries) = with_or_without (nat_le e.0 beat) e (up_to beat entries) (length entries) (length_filter beat entries)

pub none_put : (site : SiteView) (beat : ℕ) → session_puts (puts_of site) site beat ≡ []
none_put site beat = drop_all (puts_of site) (puts_to site beat) (length_filter beat (told_list site.link.puts))

pub none_by_new : (e : End) → IsNew e → put_by e ≡ []
none_by_new e new =
    let none : session_puts (puts_of e.start) e.site e.beat ≡ [] = subst (λ (s : SiteView). session_puts (puts_of e.start) s e.beat ≡ []) (sym new.site) (none_put e.start e.beat) in
    ap (λ (l : List (ℕ × Parcel)). map (λ (put : ℕ × Parcel). put.1) l) none

pub sent_new : (e : End) → IsNew e → sent_by e ≡ e.before
sent_new e new = ap (λ (l : List Parcel). e.before ++ l) (none_by_new e new) ∙ append-nil e.before

-- ---- the numbers of agents

le_true : (a b : ℕ) → nat_le a b ≡ true → a ≤ b
le_true a b e = leb-true a b e

le_false : (a b : ℕ) → nat_le a b ≡ false → a ≤ b → ⊥
le_false a b e h = grind (arith, nat_tests)

pub agent_or_not : (n : ℕ) → IsAgent n ⊎ (IsAgent n → ⊥)
agent_or_not n = by (nat_le 1 n) (nat_le n 16) refl refl
  where
    by : (a b : Bool) → nat_le 1 n ≡ a → nat_le n 16 ≡ b → IsAgent n ⊎ (IsAgent n → ⊥)
    by true true e f = inl (le_true 1 n e, le_true n 16 f)
    by false b e f = inr (λ (is : IsAgent n). le_false 1 n e is.0)
    by true false e f = inr (λ (is : IsAgent n). le_false n 16 f is.1)
