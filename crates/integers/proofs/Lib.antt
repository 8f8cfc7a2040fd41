-- Laws of ℤ and the tactics that prove them, in order of use. A term of ℤ is a tree of `◌+ℤ◌`, `◌-ℤ◌`, `◌*ℤ◌`, `neg_ℤ`, literals and atoms; `pos n`
-- is the natural n as an integer. An order binds tighter than a sum, so its sides stand in brackets: (a +ℤ b) ≤ℤ c.
--
-- 1. An equation is one polynomial on both sides: `ring ν σ (λ v. search quote depth 20) tt`. ν lists the atoms that are naturals, standing in the
--    term under `pos`, and σ those that are integers; an atom may be any term. `search quote` writes the two sides as expressions over them, and
--    `tt` says that their difference computes to nothing; `?` in its place shows what is left over.
-- 2. An equation that follows from another, e : x ≡ y: `modulo k e (ring ..)`, where the sides differ by k*(x - y).
-- 3. An order follows from a certificate: `by≤ ν σ s (λ v. search quote depth 20) tt`, where s shows a number that is not negative, a ≤ b
--    being proved where b - a is that number and monomials of naturals with no minus before them. The parts of s: `gap≤ h`, b - a for h : a ≤ℤ b; `gap< h`,
--    b - a - 1 for h : a <ℤ b; `0≤pos n`, the natural n; `0≤square z`, z*z; and of these the sum `s ⊞ t` and the product `s ⊠ t`, which binds tighter.
--    `by<` is the same for <.
-- 4. Where the two sides must first be multiplied by a positive k, p : pos 0 <ℤ k: `div≤ ν σ p s ..`, `div<`; s is then k*(b - a), or k*(b - a) - k.
-- 5. A linear fact between few variables: `to_ℤ≤ .. (omega ..)`, by differences of naturals (`Difference`).
-- 6. Named laws: `Laws`. Rising, falling and scale of the paths' arcs: `Arcs`, which is also an example of each tactic.
-- 7. Signed code of 64 bits: `fits`, `passed`, `failed`, `result`, `plain` with `search machine` (`Machine`).
pub mod Difference
pub mod Polynomial
pub mod Quotation
pub mod Certificates
pub mod Laws
pub mod Arcs
pub mod Machine
