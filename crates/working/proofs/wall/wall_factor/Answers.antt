use Rattle.std.proofs.Common.{◌≡◌, ℤ, pos, ◌+ℤ◌, ◌*ℤ◌, arith, rules, lit<, w64, SFits, to_z, of_z}
use Rattle.std.proofs.lemmas.Int.{ints, to_z-of_z}
use Rattle.measure.specs.Rounding.{rounded}
use Rattle.working.specs.Steps.{unit, wall_expansion_rounded, wall_factor}
use Rattle.working.proofs.Ranges.{fits}
use Rattle.working.proofs.Sizes.{wall_expansion_size, wall_expansion_rounded_size, twice_expansion_size, expansion_square_size, growth_sum, growth_sum_size, growth_size}
use Rattle.working.proofs.wall.wall_factor.Goals as goal
use Rattle.working.proofs.wall.wall_factor.Goals.{After-rounded_signed_quotient-z, After-rounded_signed_quotient-growth}

z_is : (c : goal.After-rounded_signed_quotient-z) → c.rounded_signed_quotient-z.result ≡ wall_expansion_rounded c.args.shell c.args.offset.ten_millionths
z_is c =
    let shell = c.args.shell in
    let d = c.args.offset.ten_millionths in
    let within = c.args.offset.within in
    let e : SFits w64 d = search rules in
    let f = fits (wall_expansion_size shell d c.requires within) (lit< tt) in
    let same = c.from.ensures in
    let wide : to_z w64 shell ≡ pos shell = omega (arith, ints) in
    simp (to_z-of_z, same, wide) at c.rounded_signed_quotient-z.ensures

pub overflow_mul-z : goal.overflow_mul-z
overflow_mul-z c =
    let shell = c.args.shell in
    let d = c.args.offset.ten_millionths in
    let within = c.args.offset.within in
    let same = z_is c in
    let e = fits (wall_expansion_rounded_size shell d c.requires within) (lit< tt) in
    simp (same, to_z-of_z) (fits (expansion_square_size shell d c.requires within) (lit< tt))

-- as it comes out in 64 bits
abbrev in_64 : ℤ → ℤ
in_64 x = to_z w64 (of_z w64 x)

sum_is : (c : goal.After-rounded_signed_quotient-z) → in_64 (pos 20000 *ℤ in_64 (in_64 c.from.result *ℤ in_64 c.args.offset.ten_millionths)) +ℤ in_64 (in_64 c.rounded_signed_quotient-z.result *ℤ in_64 c.rounded_signed_quotient-z.result) ≡ growth_sum c.args.shell c.args.offset.ten_millionths
sum_is c =
    let shell = c.args.shell in
    let d = c.args.offset.ten_millionths in
    let within = c.args.offset.within in
    let same = c.from.ensures in
    let wide : to_z w64 shell ≡ pos shell = omega (arith, ints) in
    let z = z_is c in
    let e : SFits w64 d = search rules in
    let f = fits (wall_expansion_size shell d c.requires within) (lit< tt) in
    let g = fits (twice_expansion_size shell d c.requires within) (lit< tt) in
    let h = fits (wall_expansion_rounded_size shell d c.requires within) (lit< tt) in
    let i = fits (expansion_square_size shell d c.requires within) (lit< tt) in
    simp (same, z, to_z-of_z, wide)

pub overflow_add-y : goal.overflow_add-y
overflow_add-y c =
    let size = growth_sum_size c.args.shell c.args.offset.ten_millionths c.requires c.args.offset.within in
    rw sum_is (fits size (lit< tt))

grown : (c : goal.After-rounded_signed_quotient-growth) → c.rounded_signed_quotient-growth.result ≡ rounded (growth_sum c.args.shell c.args.offset.ten_millionths) unit
grown c =
    let same = sum_is (goal.at.overflow_add-result c).After-rounded_signed_quotient-z in
    let e = fits (growth_sum_size c.args.shell c.args.offset.ten_millionths c.requires c.args.offset.within) (lit< tt) in
    simp (same, to_z-of_z) at c.rounded_signed_quotient-growth.ensures

pub overflow_add-result : goal.overflow_add-result
overflow_add-result c =
    let same = grown c in
    let size = growth_size c.args.shell c.args.offset.ten_millionths c.requires c.args.offset.within in
    omega (arith, ints)

pub overflow_cast-result-2 : goal.overflow_cast-result-2
overflow_cast-result-2 c =
    let same = grown c in
    let size = growth_size c.args.shell c.args.offset.ten_millionths c.requires c.args.offset.within in
    (omega (arith, ints), omega (arith, ints))

pub returns : goal.returns
unfolding wall_factor
returns c =
    let same = grown c in
    let size = growth_size c.args.shell c.args.offset.ten_millionths c.requires c.args.offset.within in
    record { value = omega (arith, ints); bound = omega (arith, ints) }
