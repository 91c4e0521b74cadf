mod Exposures
