-- Promise: The kinds of variables by the names of their types.
use Rattle.std.specs.Prelude.{ℕ, List, codes, if◌then◌else◌}
use Rattle.std.specs.Str.{bytes_eq}
use Rattle.cacao_vars.specs.declared.kinds.Kind.{Kind}
use Rattle.cacao_vars.specs.declared.kinds.Kind.TheVariants as kind

-- the kind that a type's name stands for
abbrev pub kind_of : List ℕ → Kind
kind_of name =
    if bytes_eq name (codes "string") then kind.String
    else if bytes_eq name (codes "bool") then kind.Bool
    else if bytes_eq name (codes "integer") then kind.Integer
    else if bytes_eq name (codes "long") then kind.Long
    else if bytes_eq name (codes "ipv4-addr") then kind.Ipv4Addr
    else if bytes_eq name (codes "ipv6-addr") then kind.Ipv6Addr
    else if bytes_eq name (codes "mac-addr") then kind.MacAddr
    else if bytes_eq name (codes "uri") then kind.Uri
    else if bytes_eq name (codes "uuid") then kind.Uuid
    else if bytes_eq name (codes "hexstring") then kind.Hexstring
    else kind.Other name
