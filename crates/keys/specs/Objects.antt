-- Objects in pools.
use Rattle.std.specs.Prelude.{Bool, ◌&&◌, nat_eq}
use Rattle.keys.specs.declared.object.Object.{Object}

-- two object keys have equal pool numbers and equal object numbers
abbrev pub one_object : Object → Object → Bool
one_object x y = nat_eq x.pool y.pool && nat_eq x.object y.object
