-- The table of constants of the API rules.
use Rattle.std.specs.Prelude.{ℕ, Bool, true, false, ◌&&◌, List, [], ◌∷◌, ℤ, pos, negsuc, Option, nat_le}
use Rattle.std.specs.List.{find}
use Rattle.product.specs.declared.api.ApiRule.{ApiRule}
use Rattle.product.specs.declared.api.ApiRule.TheVariants.{Crude, Products, Lubricants}
use Rattle.product.specs.declared.api.line.Line.{Line}

abbrev pub line : ApiRule → ℕ → ℕ → ℕ → ℕ → ℤ → Line
line rule low high k0 k1 k2 = record { rule = rule; low = low; high = high; k0 = k0; k1 = k1; k2 = k2 }

-- rule, densities from and to, K0 and K1 in units of 10^-4, K2 in units of 10^-8
abbrev pub lines : List Line
lines =
    line Crude 1221 2150 6139723 0 (pos 0)
    ∷ line Products 1306 1540 3464228 4388 (pos 0)
    ∷ line Products 1541 1575 26803206 0 (negsuc 336311)
    ∷ line Products 1576 1677 5945418 0 (pos 0)
    ∷ line Products 1678 2150 1869696 4862 (pos 0)
    ∷ line Lubricants 1600 2328 0 6278 (pos 0)
    ∷ []

abbrev pub same_rule : ApiRule → ApiRule → Bool
same_rule Crude Crude = true
same_rule Crude Products = false
same_rule Crude Lubricants = false
same_rule Products Crude = false
same_rule Products Products = true
same_rule Products Lubricants = false
same_rule Lubricants Crude = false
same_rule Lubricants Products = false
same_rule Lubricants Lubricants = true

abbrev pub covers : ApiRule → ℕ → Line → Bool
covers rule r l = same_rule l.rule rule && nat_le l.low r && nat_le r l.high

-- the line that covers a density
abbrev pub line_for : ApiRule → ℕ → Option Line
line_for rule r = find (covers rule r) lines
