-- Blocks of memory of one size.
use Rattle.std.specs.Prelude.{Bool, ℕ, ◌/◌, nat_eq}
use Rattle.keys.specs.declared.in_block.InBlock.{InBlock}
use Rattle.keys.specs.declared.line.CacheLine.{CacheLine}
use Rattle.keys.specs.declared.page.MemoryPage.{MemoryPage}

-- two byte addresses lie in one block of a size: divided by it, remainder dropped, they are equal
abbrev pub one_block : ℕ → ℕ → ℕ → Bool
one_block size a b = nat_eq (a / size) (b / size)

-- the line key of a byte address
abbrev pub line_at : ℕ → InBlock CacheLine
line_at a = record { address = a; size = record {} }

-- two line keys lie in one block of 64 bytes
abbrev pub one_line : InBlock CacheLine → InBlock CacheLine → Bool
one_line x y = one_block 64 x.address y.address

-- two page keys lie in one block of 4,096 bytes
abbrev pub one_page : InBlock MemoryPage → InBlock MemoryPage → Bool
one_page x y = one_block 4096 x.address y.address
