-- The texts of commands.
use Rattle.std.proofs.Common.{◌≡◌, List, ◌++◌, ℕ, refl, sym, ap, append_assoc}
use Rattle.std.specs.Prelude.{codes}
use Rattle.cacao_cli_rehearsal.specs.Books.{command}

spread_five : (a b c d e : List ℕ) → (((a ++ b) ++ c) ++ d) ++ e ≡ a ++ (b ++ (c ++ (d ++ e)))
spread_five a b c d e = simp append_assoc refl

spread_seven : (a b c d e f g : List ℕ) → (((a ++ b) ++ c) ++ ((d ++ e) ++ f)) ++ g ≡ a ++ (b ++ (c ++ (d ++ (e ++ (f ++ g)))))
spread_seven a b c d e f g = simp append_assoc refl

pub denied : (hi lo : List ℕ) → codes "{\"action\":\"deny\",\"target\":{\"ipv4_net\":\"10." ++ (hi ++ (codes "." ++ (lo ++ codes ".0/24\"}}")))
    ≡ command (codes "deny") (codes "ipv4_net") (codes "10." ++ hi ++ codes "." ++ lo ++ codes ".0/24")
denied hi lo = ap (λ rest. codes "{\"action\":\"deny\",\"target\":{\"ipv4_net\":\"10." ++ rest) (sym (spread_five hi (codes ".") lo (codes ".0/24") (codes "\"}}")))

pub allowed : (hi lo branch : List ℕ) → codes "{\"action\":\"allow\",\"target\":{\"ipv4_net\":\"10." ++ (hi ++ (codes "." ++ (lo ++ (codes "." ++ (branch ++ codes "/32\"}}")))))
    ≡ command (codes "allow") (codes "ipv4_net") (codes "10." ++ hi ++ codes "." ++ lo ++ (codes "." ++ branch ++ codes "/32"))
allowed hi lo branch =
    ap (λ rest. codes "{\"action\":\"allow\",\"target\":{\"ipv4_net\":\"10." ++ rest) (sym (spread_seven hi (codes ".") lo (codes ".") branch (codes "/32") (codes "\"}}")))
