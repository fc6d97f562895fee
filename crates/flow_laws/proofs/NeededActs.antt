-- What the laws on filters ask is needed: beats at which all holds but one premise, and agreement ends.
use Rattle.std.proofs.Common.{◌≡◌, ◌≢◌, ℕ, zero, suc, ◌≤◌, nat_le, Bool, ◌&&◌, true, false, List, [], ◌∷◌, refl, sym, ◌∙◌, subst, ap, arith}
use Rattle.std.specs.Prelude.{Contains, Some, None}
use Rattle.std.proofs.lemmas.Bool.{both_ways, leb-true, le-leb, and_parts, and_from}
use Rattle.cacao_site.specs.DiskCalls.{IsLeft}
use Rattle.cacao_site.specs.View.{SiteView}
use Rattle.cacao_site.specs.declared.parcel.Parcel.{Parcel}
use Rattle.run_records.specs.declared.act.Act.{Act}
use Rattle.slpf_rules_acts.specs.Acts.{reply_text, table_of}
use Rattle.flow_laws.specs.Acts.{HasReply, IsBytes}
use Rattle.flow_laws.specs.Images.{puts_to, IsActs, HasImage, EachFilter, WasSaid}
use Rattle.flow_laws.specs.Good.{IsGood}
use Rattle.flow_laws.specs.Held.{plain}
use Rattle.flow_laws.specs.Beats.{OnlyChanges, IsFurtherAct}
use Rattle.flow_laws.proofs.OneList.{empty_acts, same_acts}
use Rattle.flow_laws.proofs.Calls.{entry_now}
use Rattle.flow_laws.proofs.Needed.{site_of, is_short, is_empty, blank_left, is_start, zeros, no_list, reply, no_act_in}
use Rattle.flow_laws.proofs.Quiet.{Breaks, held_quiet, only_entry, none_in, of_no_run}

-- an act on an empty command, as the first of a filter
abbrev pub act : Act
act = record { run = 7; issue = 0; moment = 0; command = []; reply = reply_text (table_of []) [] 0 }

-- ---- the filter's file has an image

-- file 1 has no image at beat 0
abbrev pub lacks_one : ℕ → ℕ → List ℕ → Bool
lacks_one zero beat image = is_short image
lacks_one (suc zero) zero image = false
lacks_one (suc zero) (suc beat) image = is_short image
lacks_one (suc (suc file)) beat image = is_short image

abbrev pub no_image : SiteView
no_image = site_of lacks_one ((0, reply) ∷ []) []

short_later : (file : ℕ) (image : List ℕ) → lacks_one file 1 image ≡ is_short image
short_later zero image = refl
short_later (suc zero) image = refl
short_later (suc (suc file)) image = refl

lacks_elsewhere : (file : ℕ) (image : List ℕ) → file ≢ 1 → lacks_one file 1 image ≡ true → lacks_one file 0 image ≡ true
lacks_elsewhere zero image ne left = left
lacks_elsewhere (suc zero) image ne left = absurd (ne refl)
lacks_elsewhere (suc (suc file)) image ne left = left

never : false ≡ true → ⊥
never e = cc

no_command : (beat at : ℕ) (parcel : Parcel) → Contains (puts_to no_image beat) (at, parcel) → parcel.back ≡ false → ⊥
no_command beat at parcel has command =
    both_ways parcel.back command (subst (λ (p : Parcel). p.back ≡ true) (ap (λ (e : ℕ × Parcel). e.1) (only_entry beat 0 reply (at, parcel) (omega arith) has)) refl)

no_reply_then : IsGood no_image 1 → ⊥
no_reply_then good =
    let on = good.each (λ file. []) (λ file le. short_later file [] ∙ blank_left) in
    let there : Contains (puts_to no_image 1) (0, reply) =
    subst (λ (l : List (ℕ × Parcel)). Contains l (0, reply)) (sym (entry_now {T = Parcel} 1 0 [] reply (omega arith))) (0, omega arith, refl) in
    let of_act = on.agree.replies 0 reply there refl in
    let none : on.acts 1 ≡ [] = same_acts [] (on.acts 1) [] (on.are_acts 1 (omega arith, omega arith)) (empty_acts [] (is_empty [] blank_left)) in
    no_act_in (on.acts 1) of_act.reply.act none of_act.reply.has

unsaid : (left : ℕ → ℕ → List ℕ → Bool) (puts : List (ℕ × Parcel)) (beat : ℕ) (bytes : List ℕ) → WasSaid (site_of left puts []) beat bytes → ⊥
unsaid left puts beat bytes said = none_in (said.at, bytes) said.has

pub act_without_an_image :
    OnlyChanges plain (Some 1) None None no_image 0 no_image 1
    × ((image : List ℕ) → IsLeft no_image.disk 1 0 image → IsActs image [])
    × ((image : List ℕ) → IsLeft no_image.disk 1 1 image → IsActs image [])
    × IsFurtherAct no_image 0 1 [] act
    × Breaks no_image 0 no_image 1 1
act_without_an_image = (
  record {
    past = λ at image le. refl;
    images = λ file le other image left. lacks_elsewhere file image other left;
    puts = entry_now {T = Parcel} 1 0 [] reply (omega arith) ∙ sym (entry_now {T = Parcel} 0 0 [] reply (omega arith));
    lines = λ image records left are bytes line said. absurd (unsaid lacks_one ((0, reply) ∷ []) 1 bytes said);
  },
  λ image left. absurd (never left),
  λ image left. empty_acts image (is_empty image left),
  record {
    other = λ k d lt. absurd (omega (arith, lt));
    replied = refl;
    sent = λ image records left are of. absurd (of_no_run image records 7 left are of);
  },
  record {
    good = record { each = λ choice each. absurd (never (each 1 (omega arith))) };
    held = held_quiet no_image 1 0 (unsaid lacks_one ((0, reply) ∷ []) 0) (no_command 0);
    ends = λ good held. no_reply_then good;
  },
)

-- ---- the filter's file gains an act and nothing else

-- file 1 has every image from beat 1 on
abbrev pub any_one : ℕ → ℕ → List ℕ → Bool
any_one zero beat image = is_short image
any_one (suc zero) zero image = is_short image
any_one (suc zero) (suc beat) image = true
any_one (suc (suc file)) beat image = is_short image

abbrev pub any_act : SiteView
any_act = site_of any_one [] []

abbrev zeros_in_one : ℕ → List ℕ
zeros_in_one zero = []
zeros_in_one (suc zero) = zeros
zeros_in_one (suc (suc file)) = []

zeros_left : (file : ℕ) → any_one file 1 (zeros_in_one file) ≡ true
zeros_left zero = blank_left
zeros_left (suc zero) = refl
zeros_left (suc (suc file)) = blank_left

any_elsewhere : (file : ℕ) (image : List ℕ) → file ≢ 1 → any_one file 1 image ≡ true → any_one file 0 image ≡ true
any_elsewhere zero image ne left = left
any_elsewhere (suc zero) image ne left = absurd (ne refl)
any_elsewhere (suc (suc file)) image ne left = left

first_short : (file : ℕ) (image : List ℕ) → any_one file 0 image ≡ is_short image
first_short zero image = refl
first_short (suc zero) image = refl
first_short (suc (suc file)) image = refl

pub act_to_any_image :
    OnlyChanges plain (Some 1) None None any_act 0 any_act 1
    × HasImage any_act 1 0
    × ((image : List ℕ) → IsLeft any_act.disk 1 0 image → IsActs image [])
    × IsFurtherAct any_act 0 1 [] act
    × Breaks any_act 0 any_act 1 0
act_to_any_image = (
  record {
    past = λ at image le. refl;
    images = λ file le other image left. any_elsewhere file image other left;
    puts = refl;
    lines = λ image records left are bytes line said. absurd (unsaid any_one [] 1 bytes said);
  },
  record { image = []; left = blank_left },
  λ image left. empty_acts image (is_empty image left),
  record {
    other = λ k d lt. absurd (omega (arith, lt));
    replied = refl;
    sent = λ image records left are of. absurd (of_no_run image records 7 left are of);
  },
  record {
    good = record { each = λ choice each. is_start.good.each choice (λ file le. sym (first_short file (choice file)) ∙ each file le) };
    held = held_quiet any_act 0 0 (unsaid any_one [] 0) (λ at parcel has command. none_in (at, parcel) has);
    ends = λ good held.
        let on = good.each zeros_in_one (λ file le. zeros_left file) in
        let acts = on.are_acts 1 (omega arith, omega arith) in
        no_list acts.entries acts.stands;
  },
)

-- ---- a reply is from an agent

-- there are files 0 to 16 alone
abbrev pub to_sixteen : ℕ → ℕ → List ℕ → Bool
to_sixteen file beat image = nat_le file 16 && is_short image

-- a reply that comes from no agent is put at beat 1
abbrev pub stray : Parcel
stray = record { agent = 17; back = true; run = 7; issue = 0; bytes = [] }

abbrev pub before_stray : SiteView
before_stray = site_of to_sixteen [] []

abbrev pub with_stray : SiteView
with_stray = site_of to_sixteen ((1, stray) ∷ []) []

there : (file : ℕ) → file ≤ 16 → to_sixteen file 1 [] ≡ true
there file le = and_from (nat_le file 16) (is_short []) (le-leb file 16 le) blank_left

no_seventeen : (image : List ℕ) → to_sixteen 17 0 image ≡ true → ⊥
no_seventeen image left = omega (arith, leb-true 17 16 (and_parts (nat_le 17 16) (is_short image) left).0)

pub reply_from_no_agent :
    OnlyChanges plain None (Some stray) None before_stray 0 with_stray 1
    × (stray.back ≡ true)
    × EachFilter before_stray 0 stray.agent (λ acts. HasReply acts stray.run stray.issue (IsBytes stray.bytes))
    × Breaks before_stray 0 with_stray 1 0
reply_from_no_agent = (
  record {
    past = λ at image le. refl;
    images = λ file le other image left. left;
    puts = entry_now {T = Parcel} 1 1 [] stray (omega arith);
    lines = λ image records left are bytes line said. absurd (unsaid to_sixteen ((1, stray) ∷ []) 1 bytes said);
  },
  refl,
  λ image left. absurd (no_seventeen image left),
  record {
    good = record { each = λ choice each. is_start.good.each choice (λ file le. (and_parts (nat_le file 16) (is_short (choice file)) (each file le)).1) };
    held = held_quiet before_stray 0 0 (unsaid to_sixteen [] 0) (λ at parcel has command. none_in (at, parcel) has);
    ends = λ good held.
        let on = good.each (λ file. []) (λ file le. there file le) in
        let put : Contains (puts_to with_stray 1) (1, stray) =
        subst (λ (l : List (ℕ × Parcel)). Contains l (1, stray)) (sym (entry_now {T = Parcel} 1 1 [] stray (omega arith))) (0, omega arith, refl) in
        let of_act = on.agree.replies 1 stray put refl in
        absurd (omega (arith, of_act.is_agent.1));
  },
)
