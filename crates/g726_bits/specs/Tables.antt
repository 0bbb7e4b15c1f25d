-- The tables of the four rates (G.726, 4.2.3 and 4.2.4: QUAN, RECONST, FUNCTW, FUNCTF).
use Rattle.std.specs.Prelude.{ℕ, ℤ, pos, negsuc, List, [], ◌∷◌}
use Rattle.g726_bits.specs.declared.Rate.{Rate}
use Rattle.g726_bits.specs.declared.Rate.TheVariants.{R16, R24, R32, R40}

-- where one level of the normalised logarithm ends and the next begins (QUAN)
abbrev pub thresholds : Rate → List ℤ
thresholds R16 = pos 261 ∷ []
thresholds R24 = pos 8 ∷ pos 218 ∷ pos 331 ∷ []
thresholds R32 = negsuc 123 ∷ pos 80 ∷ pos 178 ∷ pos 246 ∷ pos 300 ∷ pos 349 ∷ pos 400 ∷ []
thresholds R40 =
    negsuc 121 ∷ negsuc 15 ∷ pos 68 ∷ pos 139 ∷ pos 198 ∷ pos 250 ∷ pos 298 ∷ pos 339 ∷ pos 378 ∷ pos 413 ∷ pos 445 ∷
    pos 475 ∷ pos 502 ∷ pos 528 ∷ pos 553 ∷ []

-- the normalised logarithm that a level is given back as (RECONST: DQLN)
abbrev pub log_levels : Rate → List ℤ
log_levels R16 = pos 116 ∷ pos 365 ∷ []
log_levels R24 = negsuc 2047 ∷ pos 135 ∷ pos 273 ∷ pos 373 ∷ []
log_levels R32 =
    negsuc 2047 ∷ pos 4 ∷ pos 135 ∷ pos 213 ∷ pos 273 ∷ pos 323 ∷ pos 373 ∷ pos 425 ∷ []
log_levels R40 =
    negsuc 2047 ∷ negsuc 65 ∷ pos 28 ∷ pos 104 ∷ pos 169 ∷ pos 224 ∷ pos 274 ∷ pos 318 ∷ pos 358 ∷ pos 395 ∷ pos 429 ∷
    pos 459 ∷ pos 488 ∷ pos 514 ∷ pos 539 ∷ pos 566 ∷ []

-- what a level adds to the scale factor (FUNCTW: W, a 32nd of it)
abbrev pub scale_steps : Rate → List ℤ
scale_steps R16 = negsuc 21 ∷ pos 439 ∷ []
scale_steps R24 = negsuc 3 ∷ pos 30 ∷ pos 137 ∷ pos 582 ∷ []
scale_steps R32 =
    negsuc 11 ∷ pos 18 ∷ pos 41 ∷ pos 64 ∷ pos 112 ∷ pos 198 ∷ pos 355 ∷ pos 1122 ∷ []
scale_steps R40 =
    pos 14 ∷ pos 14 ∷ pos 24 ∷ pos 39 ∷ pos 40 ∷ pos 41 ∷ pos 58 ∷ pos 100 ∷ pos 141 ∷ pos 179 ∷ pos 219 ∷ pos 280 ∷
    pos 358 ∷ pos 440 ∷ pos 529 ∷ pos 696 ∷ []

-- how fast a level lets the adaptation be (FUNCTF: F, a 512th of it)
abbrev pub speed_steps : Rate → List ℕ
speed_steps R16 = 0 ∷ 7 ∷ []
speed_steps R24 = 0 ∷ 1 ∷ 2 ∷ 7 ∷ []
speed_steps R32 = 0 ∷ 0 ∷ 0 ∷ 1 ∷ 1 ∷ 1 ∷ 3 ∷ 7 ∷ []
speed_steps R40 = 0 ∷ 0 ∷ 0 ∷ 0 ∷ 0 ∷ 1 ∷ 1 ∷ 1 ∷ 1 ∷ 1 ∷ 2 ∷ 3 ∷ 4 ∷ 5 ∷ 6 ∷ 6 ∷ []
