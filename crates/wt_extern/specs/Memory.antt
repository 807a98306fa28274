-- Memory types: what they say, and when settings are none (WebAssembly 3.0, "Memory Types" and "Limits"; page sizes, sharing and the order of the causes after wasmtime). Sizes are in pages.
use Rattle.std.specs.Prelude.{ℕ, ◌*◌, ◌^◌, Bool, false, not, ◌&&◌, ◌||◌, ◌==◌, nat_lt, Option, None, Some, is_none, Result, Ok, Err, if◌then◌else◌}
use Rattle.wt_extern.specs.declared.memory_refusal.MemoryRefusal.{MemoryRefusal}
use Rattle.wt_extern.specs.declared.memory_refusal.MemoryRefusal.TheVariants.{MaximumBelowMinimum, PageSize, SharedWithoutMaximum, MinimumPastU64, MinimumTooLarge, MaximumTooLarge}

-- least and greatest size in pages, whether addresses have 64 bits, whether threads share it, and the logarithm to base 2 of the bytes of a page
pub record MemorySettings : Type 0 where
  pub minimum : ℕ
  pub maximum : Option ℕ
  pub is_64 : Bool
  pub is_shared : Bool
  pub page_size_log2 : ℕ

-- what a builder begins with: no page and no maximum, 32-bit, unshared, pages of 2^16 bytes
abbrev pub first_settings : MemorySettings
first_settings = record { minimum = 0; maximum = None; is_64 = false; is_shared = false; page_size_log2 = 16 }

-- there is a number of pages, and it passes the test
abbrev pub some_is : Option ℕ → (ℕ → Bool) → Bool
some_is None test = false
some_is (Some pages) test = test pages

-- the bytes of so many pages, exactly
abbrev pub byte_size : MemorySettings → ℕ → ℕ
byte_size memory pages = pages * 2 ^ memory.page_size_log2

-- so many pages have at most 2^64 - 1 bytes
abbrev pub fits_u64 : MemorySettings → ℕ → Bool
fits_u64 memory pages = nat_lt (byte_size memory pages) (2 ^ 64)

-- so many pages have more than the 2^32 bytes that 32 bits address
abbrev pub passes_32_bits : MemorySettings → ℕ → Bool
passes_32_bits memory pages = nat_lt (2 ^ 32) (byte_size memory pages)

-- fewer pages at most than at least
abbrev pub has_maximum_below_minimum : MemorySettings → Bool
has_maximum_below_minimum memory = some_is memory.maximum (λ pages. nat_lt pages memory.minimum)

-- a page has 1 byte or 2^16
abbrev pub has_page_size : MemorySettings → Bool
has_page_size memory = (memory.page_size_log2 == 0) || (memory.page_size_log2 == 16)

-- threads share it, and there is no maximum
abbrev pub is_shared_without_maximum : MemorySettings → Bool
is_shared_without_maximum memory = memory.is_shared && is_none memory.maximum

-- by 32 bits, the minimum has too many bytes
abbrev pub has_large_minimum : MemorySettings → Bool
has_large_minimum memory = not memory.is_64 && passes_32_bits memory memory.minimum

-- by 32 bits, the maximum has too many bytes, though they fit 64 bits
abbrev pub has_large_maximum : MemorySettings → Bool
has_large_maximum memory = not memory.is_64 && some_is memory.maximum (λ pages. passes_32_bits memory pages && fits_u64 memory pages)

-- the first cause for which the bytes are too many
abbrev pub size_refusal : MemorySettings → Option MemoryRefusal
size_refusal memory =
    if not (fits_u64 memory memory.minimum) then Some MinimumPastU64 else
    (if has_large_minimum memory then Some MinimumTooLarge else
    (if has_large_maximum memory then Some MaximumTooLarge else None))

-- the first cause for which settings are no memory type; none where they are one
abbrev pub memory_refusal : MemorySettings → Option MemoryRefusal
memory_refusal memory =
    if has_maximum_below_minimum memory then Some MaximumBelowMinimum else
    (if not (has_page_size memory) then Some (PageSize memory.page_size_log2) else
    (if is_shared_without_maximum memory then Some SharedWithoutMaximum else
    size_refusal memory))

-- the settings, or the refusal where there is one
abbrev pub unless_refused : MemorySettings → Option MemoryRefusal → Result MemorySettings MemoryRefusal
unless_refused memory None = Ok memory
unless_refused memory (Some refusal) = Err refusal

-- the memory type of these settings, or its first refusal
abbrev pub build : MemorySettings → Result MemorySettings MemoryRefusal
build memory = unless_refused memory (memory_refusal memory)
