mod LentBack
