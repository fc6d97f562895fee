-- The text of a net, cut at its slash.
use Rattle.std.proofs.Common.{◌≡◌, ◌<◌, ◌^◌, ℕ, List, [], ◌∷◌, Some, None, length, eqb, option_map, refl, sym, ap, ◌∙◌, subst, arith}
use Rattle.std.specs.List.{join_with_byte}
use Rattle.std.proofs.lemmas.List.Splits.{length-slice_split}
use Rattle.oc2_nets.specs.Texts.{parts}
use Rattle.base_decimals.specs.Numbers.{number}
use Rattle.oc2_nets.specs.Nets.{split_width}
use Rattle.base_decimals.proofs.Decimals.{number_sound}
use Rattle.base_decimals.proofs.Choices.{none_if}
use Rattle.oc2_nets.proofs.TextParts.{Lacks, joined_parts, parts_one}
use Rattle.oc2_nets.proofs.Ipv4Lemmas.{decimal_lacks}

-- a number holds no slash
one_part : (most n : ℕ) (text : List ℕ) → most < 2 ^ 64 → number most text ≡ Some n → parts 47 text ≡ text ∷ []
one_part most n text small e =
    let sound = number_sound most n text e in
    parts_one 47 text (subst (Lacks 47) (sym sound.0) (decimal_lacks 47 n (omega (arith, sound.1)) (λ h. absurd (omega arith))))

at_parts : (most : ℕ) (address width : List ℕ) (ps : List (List ℕ)) → most < 2 ^ 64 → parts 47 width ≡ ps → option_map (λ w. (address, w)) (number most width) ≡ split_width most (address ∷ ps)
at_parts most address width [] small is = absurd (omega (arith, ap length is, length-slice_split (λ c. eqb c 47) width))
at_parts most address width (p ∷ []) small is =
    let same : p ≡ width = ap (join_with_byte 47) (sym is) ∙ joined_parts 47 width in
    ap (λ t. option_map (λ w. (address, w)) (number most t)) (sym same)
at_parts most address width (p ∷ q ∷ ps) small is = ap (option_map (λ w. (address, w))) (none_if _ λ n e. let one = one_part most n width small e in cc)

pub split_width_at : (most : ℕ) (address width : List ℕ) → most < 2 ^ 64 → option_map (λ w. (address, w)) (number most width) ≡ split_width most (address ∷ parts 47 width)
split_width_at most address width small = at_parts most address width (parts 47 width) small refl

pub width_read : (most w : ℕ) (text address width : List ℕ) → most < 2 ^ 64 → parts 47 text ≡ address ∷ parts 47 width → number most width ≡ Some w → Some (address, w) ≡ split_width most (parts 47 text)
width_read most w text address width small cut e =
    ap (option_map (λ w. (address, w))) (sym e) ∙ split_width_at most address width small ∙ ap (split_width most) (sym cut)

pub width_not_read : (most : ℕ) (text address width : List ℕ) → most < 2 ^ 64 → parts 47 text ≡ address ∷ parts 47 width → number most width ≡ None → None ≡ split_width most (parts 47 text)
width_not_read most text address width small cut e =
    ap (option_map (λ w. (address, w))) (sym e) ∙ split_width_at most address width small ∙ ap (split_width most) (sym cut)
