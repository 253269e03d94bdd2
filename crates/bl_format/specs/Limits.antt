-- How much a file and a run may hold at most. All limits but that on versions are this project's own.
use Rattle.std.specs.Prelude.{ℕ}

-- the first version that is read, Blender's 2.50
abbrev pub first_version : ℕ
first_version = 250

-- the last version that is read, 4.99
abbrev pub last_version : ℕ
last_version = 499

-- the bytes of all files that one run reads
abbrev pub most_input_bytes : ℕ
most_input_bytes = 1073741824

-- the blocks of a file before its end, the catalogue's among them
abbrev pub most_blocks : ℕ
most_blocks = 4194304

-- the elements of a member
abbrev pub most_elements : ℕ
most_elements = 2147483647

-- how deep structs stand in one another by value; a struct without any has 1
abbrev pub deepest_nesting : ℕ
deepest_nesting = 32

-- the leaves of a catalogue, all structs together
abbrev pub most_leaves : ℕ
most_leaves = 1048576

-- the bytes of a type, which a catalogue writes in 16 bits
abbrev pub longest_type : ℕ
longest_type = 65535

-- the libraries in an output, and the files that one run opens through libraries
abbrev pub most_libraries : ℕ
most_libraries = 256

-- the nodes of an output
abbrev pub most_output_nodes : ℕ
most_output_nodes = 8388608

-- the bytes of an output block's payload
abbrev pub longest_payload : ℕ
longest_payload = 2147483647

-- the bytes of an output
abbrev pub longest_output : ℕ
longest_output = 2147483648
