-- How much of an input is read (own).
use Rattle.std.specs.Prelude.{ℕ, ◌+◌}
use Rattle.mcv_config.specs.Config.{size_limit}

-- the most bytes of a request line: the longest name, a space, the longest key word and LF
abbrev pub line_limit : ℕ
line_limit = 259

-- a request line, and a configuration of one byte more than one may have
abbrev pub input_limit : ℕ
input_limit = line_limit + size_limit + 1
