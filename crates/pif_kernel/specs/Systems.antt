-- The words and the kernel together, as an end of a thread changes them.
use Rattle.pif_model.specs.PiKernel.{System}
use Rattle.pif_word.specs.WordMap.{WordMap, words_of}
use Rattle.pif_kernel_model.specs.Inside.{Inside, kernel_of}

-- the words and the kernel that these are
abbrev pub system_of : WordMap → Inside → System
system_of s p = record { words = words_of s; kernel = kernel_of p }
