-- Promise: Nets, and their texts.
use Rattle.std.specs.Prelude.{ℕ, ◌*◌, ◌/◌, ◌%◌, ◌^◌, min, Bool, false, ◌==◌, List, [], ◌∷◌, ◌++◌, map, Option, Some, None, option_map, codes}
use Rattle.std.specs.Fmt.{decimal, digits}
use Rattle.std.specs.List.{join_with_byte}
use Rattle.std.specs.Net.Text.{dotted_text}
use Rattle.oc2_nets.specs.declared.ipv4_nets.Net4.{Net4}
use Rattle.oc2_nets.specs.declared.ipv6_nets.Net6.{Net6}
use Rattle.oc2_nets.specs.declared.packets.Address.{Address}
use Rattle.oc2_nets.specs.declared.packets.Address.TheVariants.{V4, V6}
use Rattle.oc2_nets.specs.Bits.{cleared}
use Rattle.oc2_nets.specs.NetFacts.{min_is_width, cleared_is_cleared}
use Rattle.oc2_nets.specs.Texts.{◌>>=◌, slash, colon, parts}
use Rattle.base_decimals.specs.Numbers.{number}
use Rattle.oc2_nets.specs.Ipv4.{address4}
use Rattle.oc2_nets.specs.Ipv6.{address6}

-- The text of an address, and the width that stands behind it and `/`, from 0 to `most`. An address alone has
-- the greatest width.
abbrev pub split_width : ℕ → List (List ℕ) → Option (List ℕ × ℕ)
split_width most (address ∷ []) = Some (address, most)
split_width most (address ∷ width ∷ []) = option_map (λ w. (address, w)) (number most width)
split_width most _ = None

-- the net of an address and a width of at most 32 (a greater one, which no text has, counts as 32)
abbrev pub net4 : ℕ → ℕ → Net4
net4 address width = record {
  bits = cleared 32 address (min width 32);
  width = min width 32;
  in_range = min_is_width 32 width;
  host_bits = cleared_is_cleared 32 address (min width 32);
}

-- the net of an address and a width of at most 128 (a greater one counts as 128)
abbrev pub net6 : ℕ → ℕ → Net6
net6 address width = record {
  bits = cleared 128 address (min width 128);
  width = min width 128;
  in_range = min_is_width 128 width;
  host_bits = cleared_is_cleared 128 address (min width 128);
}

-- the net that a text stands for
unfoldable pub net4_of : List ℕ → Option Net4
net4_of text = do
  p ← split_width 32 (parts slash text)
  bits ← address4 p.0
  Some (net4 bits p.1)

unfoldable pub net6_of : List ℕ → Option Net6
net6_of text = do
  p ← split_width 128 (parts slash text)
  bits ← address6 p.0
  Some (net6 bits p.1)

-- the text of a net: the four octets, and the width
abbrev pub net4_text : Net4 → List ℕ
net4_text net =
    dotted_text (net.bits / 2 ^ 24) (net.bits / 2 ^ 16 % 2 ^ 8) (net.bits / 2 ^ 8 % 2 ^ 8) (net.bits % 2 ^ 8)
    ++ codes "/" ++ decimal net.width

-- the eight groups of an address, the most significant first
abbrev pub groups_of : ℕ → List ℕ
groups_of bits = map (λ k. bits / 2 ^ (16 * k) % 2 ^ 16) (7 ∷ 6 ∷ 5 ∷ 4 ∷ 3 ∷ 2 ∷ 1 ∷ 0 ∷ [])

-- a number in lower-case hexadecimal digits, without leading zeros
abbrev pub hex : ℕ → List ℕ
hex n = digits 16 false n

-- groups with a colon between each two
abbrev pub groups_text : List ℕ → List ℕ
groups_text groups = join_with_byte colon (map hex groups)

-- the four groups of a number of 64 bits
abbrev pub quarters : ℕ → List ℕ
quarters bits = (bits / 2 ^ 48) ∷ (bits / 2 ^ 32 % 2 ^ 16) ∷ (bits / 2 ^ 16 % 2 ^ 16) ∷ (bits % 2 ^ 16) ∷ []

-- the text of a net: the eight groups, without `::`, and the width
abbrev pub net6_text : Net6 → List ℕ
net6_text net = groups_text (groups_of net.bits) ++ codes "/" ++ decimal net.width

-- the address is of the net's family, and its bits up to the width are those of the net
abbrev pub lies4 : Net4 → Address → Bool
lies4 net (V4 bits) = cleared 32 bits net.width == net.bits
lies4 net (V6 bits) = false

abbrev pub lies6 : Net6 → Address → Bool
lies6 net (V4 bits) = false
lies6 net (V6 bits) = cleared 128 bits net.width == net.bits
