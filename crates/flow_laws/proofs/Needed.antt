-- What the laws ask is needed: the sites below are blank but for one parcel, one line or one image, and each breaks agreement.
use Rattle.std.proofs.Common.{◌≡◌, inl, inr, ℕ, nat_le, Bool, true, false, List, [], ◌∷◌, ◌++◌, refl, sym, ◌∙◌, subst, arith, length}
use Rattle.std.specs.Prelude.{Contains, Some, None, slice_get, codes}
use Rattle.std.proofs.lemmas.Bool.{leb-true, le-leb}
use Rattle.std.proofs.lemmas.List.{append_assoc}
use Rattle.cacao_site.specs.View.{SiteView}
use Rattle.cacao_site.specs.declared.parcel.Parcel.{Parcel}
use Rattle.run_journal.specs.Layout.{Stands, header, entries, front}
use Rattle.run_records.specs.declared.record.Record.{Record}
use Rattle.run_records.specs.declared.act.Act.{Act}
use Rattle.flow_core_rules.specs.Laws.{IsRecordLine}
use Rattle.flow_laws.specs.Images.{up_to, WasSaid}
use Rattle.flow_laws.specs.Good.{IsGood}
use Rattle.flow_laws.specs.Held.{IsHeldAs, IsRunLine, plain}
use Rattle.flow_laws.specs.Sessions.{IsBlank, IsStart}
use Rattle.flow_laws.proofs.Basics.{begun}
use Rattle.flow_laws.proofs.OneList.{empty_records, empty_acts, none_of_empty, same_acts}
use Rattle.flow_laws.proofs.Blank.{begins_on_blank_files}
use Rattle.flow_laws.proofs.Calls.{entry_now}

-- a site at beat 0 with these images, where these parcels were put and these lines said
abbrev pub site_of : (ℕ → ℕ → List ℕ → Bool) → List (ℕ × Parcel) → List (ℕ × List ℕ) → SiteView
site_of left puts said = record {
  disk = record { told = true; reads = λ file. []; left = left; beat = 0; calls = 0; written = 0; faults = 0; label = [] };
  link = record { puts = Some puts; taken = Some []; empty_takes = Some []; pending = Some []; said = Some said };
  clock = record { now = 0; asked = 0; furthest = 0; shorts = 0 };
  counts = record { says = 0; unsaid = 0; mishaps = 0 };
}

abbrev pub is_short : List ℕ → Bool
is_short image = nat_le (length image) 9

-- each of its files has all images of at most 9 bytes
abbrev pub site_with : List (ℕ × Parcel) → List (ℕ × List ℕ) → SiteView
site_with puts said = site_of (λ file beat image. is_short image) puts said

pub is_empty : (image : List ℕ) → nat_le (length image) 9 ≡ true → Stands image []
is_empty image left = inl (leb-true (length image) 9 left, refl)

pub blank_left : nat_le 0 9 ≡ true
blank_left = le-leb 0 9 (omega arith)

-- the entry of beat 0 is there
pub in_one : {T : Type 0} (x : T) (e : ℕ × T) → e ≡ (0, x) → Contains (up_to 0 ((0, x) ∷ [])) e
in_one {T} x e is =
    subst (λ (l : List (ℕ × T)). Contains l e) (sym (entry_now {T = T} 0 0 [] x (omega arith))) (0, omega arith, sym is)

-- a blank site is good and held
pub is_blank : IsBlank plain (site_with [] [])
is_blank = record {
  empty = λ file image le left. is_empty image left;
  none_put = refl;
  silent = λ bytes said line. absurd (omega (arith, said.has.1));
}

pub is_start : IsStart plain (site_with [] [])
is_start = (begins_on_blank_files plain (site_with [] []) is_blank).0

-- an image that stands for no list
abbrev pub zeros : List ℕ
zeros = 0 ∷ 0 ∷ 0 ∷ 0 ∷ 0 ∷ 0 ∷ 0 ∷ 0 ∷ 0 ∷ 0 ∷ []

no_header : (rest : List ℕ) → zeros ≡ header ++ rest → ⊥
no_header rest e = cc

pub no_list : (items : List (List ℕ)) → Stands zeros items → ⊥
unfolding front
no_list items (inl short) = absurd (omega (arith, short.0))
no_list items (inr long) =
    no_header (entries items ++ long.1.closed.gate ∷ long.1.closed.rest) (long.1.closed.is ∙ append_assoc header (entries items) (long.1.closed.gate ∷ long.1.closed.rest))

-- a site each of whose files has every image
abbrev pub any_image : SiteView
any_image = site_of (λ file beat image. true) [] []

pub image_of_no_list : IsGood any_image 0 → ⊥
image_of_no_list good = let on = good.each (λ file. zeros) (λ file le. refl) in no_list on.are_records.entries on.are_records.stands

-- a reply that no filter gave
abbrev pub reply : Parcel
reply = record { agent = 1; back = true; run = 7; issue = 0; bytes = [] }

pub no_act_in : (acts : List Act) (act : Act) → acts ≡ [] → Contains acts act → ⊥
no_act_in acts act none has =
    let there : Contains [] act = subst (λ (l : List Act). Contains l act) none has in
    absurd (omega (arith, there.1))

pub reply_without_act : IsGood (site_with ((0, reply) ∷ []) []) 0 → ⊥
reply_without_act good =
    let on = good.each (λ file. []) (λ file le. blank_left) in
    let of_act = on.agree.replies 0 reply (in_one reply (0, reply) refl) refl in
    let none : on.acts 1 ≡ [] = same_acts [] (on.acts 1) [] (on.are_acts 1 (omega arith, omega arith)) (empty_acts [] (is_empty [] blank_left)) in
    no_act_in (on.acts 1) of_act.reply.act none of_act.reply.has

-- a command that no journal sent
abbrev pub command : Parcel
command = record { agent = 1; back = false; run = 7; issue = 0; bytes = [] }

pub command_without_send : IsHeldAs plain (site_with ((0, command) ∷ []) []) 0 0 → ⊥
command_without_send held =
    let there = held.was_open 0 command (record { has = in_one command (0, command) refl; command = refl; own = refl }) [] blank_left in
    begun there.records 7 there.so.of_run (none_of_empty [] there.records (is_empty [] blank_left) there.are)

-- a line of a record that does not stand there
abbrev pub line : List ℕ
line = codes "0 0 begin 7"

pub is_line : IsRecordLine line
is_line = record {
  number = codes "0";
  moment = codes "0";
  word = codes "begin";
  rest = codes "7";
  number_is = (omega arith, refl);
  moment_is = (omega arith, refl);
  word_is = refl;
  joined = refl;
}

no_record : (n : ℕ) (it : Record) → slice_get [] n ≡ Some it → ⊥
no_record n it is = cc

pub line_without_record : IsHeldAs plain (site_with [] ((0, line) ∷ [])) 0 0 → ⊥
line_without_record held =
    let said : WasSaid (site_with [] ((0, line) ∷ [])) 0 line = record { at = 0; has = in_one line (0, line) refl } in
    let looks : IsRunLine plain None line = record { line = line; looks = is_line; is = refl } in
    let of = held.lines [] [] blank_left (empty_records [] (is_empty [] blank_left)) line said looks in
    no_record of.n of.it of.stands
