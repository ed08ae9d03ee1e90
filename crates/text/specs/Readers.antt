-- What is left of a line.
use Rattle.std.specs.Prelude.{ℕ, List}
use Rattle.text.specs.declared.reader.Reader.{Reader}

-- the bytes that were not read yet
abbrev pub left_of : Reader → List ℕ
left_of r = r.left.now
