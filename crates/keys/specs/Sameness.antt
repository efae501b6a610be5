-- What makes a key kind lawful.
use Rattle.std.specs.Prelude.{◌≡◌, Bool, true}

-- sameness is reflexive, symmetric and transitive
pub record Lawful {K : Type 0} (same : K → K → Bool) : Type 0 where
  pub reflexive : (x : K) → same x x ≡ true
  pub symmetric : (x y : K) → same x y ≡ true → same y x ≡ true
  pub transitive : (x y z : K) → same x y ≡ true → same y z ≡ true → same x z ≡ true
